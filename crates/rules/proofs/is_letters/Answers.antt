use borrow.Author.Rules.{rules}
use Rattle.rules.specs.Command.{is_letters}
use Rattle.rules.proofs.is_letters.Goals as goal

pub returns : goal.returns
unfolding is_letters
returns c = search rules
