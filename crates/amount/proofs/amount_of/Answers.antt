use native.Mathlib.Omega.{arith}
use mir.Facts.{to_z-of_z}
use Rattle.amount.proofs.Laws.{amount_range}
use Rattle.amount.proofs.amount_of.Goals as goal

pub overflow_cast-result : goal.overflow_cast-result
overflow_cast-result c = let h = amount_range c.args.a c.requires in rw (to_z-of_z c.ranges.a) (h.0, record { fits = omega arith })

pub invariant_of-result : goal.invariant_of-result
invariant_of-result c = let h = amount_range c.args.a c.requires in rw (to_z-of_z c.ranges.a) (omega arith)
