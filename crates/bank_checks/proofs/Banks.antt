-- An amount in a check. Assumes nothing.
use mathlib.Core.Path.{◌≡◌, refl, sym}
use mathlib.Core.Bool.{Bool, true, false, ◌&&◌}
use mir.Syntax.{w64}
use mir.Val.{SFits}
use lib.IntN.{ℤ}
use Rattle.octets.specs.Octets.{is_money}
use Rattle.octets.proofs.Numbers.{fits_money}

-- an amount in an i64 is well-formed
pub and_money : (b : Bool) (a : ℤ) → SFits w64 a → b ≡ (b && is_money a)
and_money true a h = sym (fits_money a h)
and_money false a h = refl
