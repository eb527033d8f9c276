use borrow.Author.Rules.{rules}
use Rattle.rules.specs.Command.{is_code}
use Rattle.rules.proofs.is_code.Goals as goal

pub returns : goal.returns
unfolding is_code
returns c = search rules
