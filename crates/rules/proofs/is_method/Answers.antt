use borrow.Author.Rules.{rules}
use Rattle.rules.specs.Command.{is_method}
use Rattle.rules.proofs.is_method.Goals as goal

pub returns : goal.returns
unfolding is_method
returns c = search rules
