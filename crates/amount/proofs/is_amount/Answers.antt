use mir.Facts.{to_z-of_z}
use native.Mathlib.Omega.{arith}
use Rattle.amount.proofs.Integer.{ints}
use Rattle.amount.specs.Amount.{is_amount, within}
use Rattle.amount.proofs.is_amount.Goals as goal

pub returns : goal.returns
unfolding is_amount within
returns c = rw (c.contains.ensures.value, c.new.ensures.exhausted, c.new.ensures.start, c.new.ensures.end, to_z-of_z c.ranges.a) (grind (arith, ints))
