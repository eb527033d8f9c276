use native.Mathlib.Omega.{arith}
use mathlib.Core.Path.{refl, sym, ◌∙◌}
use Rattle.octets.specs.Octets.{write}
use Rattle.rules.specs.Letters.{shown}
use Rattle.report_letters.proofs.put_letter.Goals as goal

pub returns-then-has-clause-wrote : goal.returns-then-has-clause-wrote
unfolding shown
returns-then-has-clause-wrote c = rw (sym c.has.ensures ∙ c.if-has.true) (rw c.ascii.ensures at c.put.ensures.wrote)

pub returns-else-has-clause-wrote : goal.returns-else-has-clause-wrote
unfolding shown write
returns-else-has-clause-wrote c = rw (sym c.has.ensures ∙ c.if-has.false) (record { bytes = refl; behind = omega arith })
