-- A limit by an adjusting method. Assumes nothing.
use mathlib.Core.Path.{◌≡◌, refl}
use Prim.Native.Nat.{ℕ, zero, suc}
use lib.IntN.{ℤ, ◌-ℤ◌}
use Rattle.amount.specs.Amount.{cut}
use Rattle.rules.specs.Account.{Value}
use Rattle.rules.specs.Day.{morning}

pub morning_adjusts : (m : ℕ) (less v : ℤ) → ¬ (m ≡ 0) → ¬ (m ≡ 1) → ¬ (m ≡ 2) → morning m less (Value v) ≡ Value (cut (v -ℤ less))
unfolding morning
morning_adjusts zero less v f g h = absurd (f refl)
morning_adjusts (suc zero) less v f g h = absurd (g refl)
morning_adjusts (suc (suc zero)) less v f g h = absurd (h refl)
morning_adjusts (suc (suc (suc m))) less v f g h = refl
