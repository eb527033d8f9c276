use borrow.Author.Rules.{rules}
use Rattle.rules.specs.Command.{is_form}
use Rattle.rules.proofs.is_form.Goals as goal

pub returns : goal.returns
unfolding is_form
returns c = search rules
