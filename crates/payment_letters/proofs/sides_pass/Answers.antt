use Rattle.payment_letters.specs.Sides.{sides_pass}
use Rattle.payment_letters.proofs.sides_pass.Goals as goal

pub returns-then-credit : goal.returns-then-credit
unfolding sides_pass
returns-then-credit c = rw c.if-credit.true c.letters_pass.ensures

pub returns-else-credit : goal.returns-else-credit
unfolding sides_pass
returns-else-credit c = rw c.if-credit.false c.letters_pass-else-credit.ensures
