use mir.Facts.{to_z-of_z}
use native.Mathlib.Omega.{arith}
use Rattle.amount.proofs.Integer.{ints}
use Rattle.amount.specs.Amount.{is_limit, within}
use Rattle.amount.proofs.is_limit.Goals as goal

pub returns : goal.returns
unfolding is_limit within
returns c = rw (c.contains.ensures.value, c.new.ensures.exhausted, c.new.ensures.start, c.new.ensures.end, to_z-of_z c.ranges.v) (grind (arith, ints))
