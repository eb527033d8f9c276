use native.Mathlib.Omega.{arith}
use mathlib.Core.Path.{◌≡◌}
use Prim.Native.Nat.{ℕ, ◌*◌, ◌≤◌, ◌^◌}
use mir.Syntax.{w64}
use mir.Val.{SFits, to_z}
use mir.Facts.{to_z-of_z}
use lib.IntN.{ℤ, pos, nat_abs, ◌-ℤ◌}
use Rattle.amount.proofs.Integer.{low_to_z, ints, told, diff}
use Rattle.amount.proofs.ltk_allows.Goals as goal

amount-reads : (n : ℕ) → n ≤ 10 ^ 15 → to_z w64 n ≡ pos n
amount-reads n h = low_to_z (omega arith)

fits : (s : ℤ) (n : ℕ) → SFits w64 s → nat_abs s ≤ 4 * 10 ^ 18 → n ≤ 10 ^ 15 → SFits w64 (s -ℤ pos n)
fits s n f h k = omega (arith, ints, told f, diff s (pos n))

pub overflow_sub-result : goal.overflow_sub-result
overflow_sub-result c = rw (to_z-of_z c.ranges.state, amount-reads _ c.amount.invariant) (fits _ _ c.ranges.state c.requires c.amount.invariant)

pub returns : goal.returns
returns c =
    rw (to_z-of_z c.ranges.ltk, to_z-of_z c.ranges.state, amount-reads _ c.amount.invariant, to_z-of_z (fits _ _ c.ranges.state c.requires c.amount.invariant), ← c.amount.view_is)
