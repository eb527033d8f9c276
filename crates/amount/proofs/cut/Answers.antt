use mir.Facts.{to_z-of_z}
use native.Mathlib.Omega.{arith}
use borrow.Author.Rules.{sfits_of}
use Rattle.amount.specs.Amount as Rule
use Rattle.amount.proofs.Integer.{ints}
use Rattle.amount.proofs.cut.Goals as goal

pub returns : goal.returns
unfolding Rule.cut
returns c = rw (to_z-of_z (sfits_of c.clamp.type_inv), c.clamp.ensures.value, to_z-of_z c.ranges.z) (grind (arith, ints))
