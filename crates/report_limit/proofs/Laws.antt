-- Laws of lines: their bytes one after the other, and the sizes of their numbers. Assumes nothing.
use mathlib.Core.Path.{◌≡◌, refl, ap}
use mathlib.Core.Bool.{Bool, true, false, cond, false≢true}
use Prim.Native.Nat.{ℕ, ◌^◌, ◌≤◌, min}
use native.Mathlib.Omega.{arith}
use native.Mathlib.Nat.{div-le_of_le-mul}
use mir.Syntax.{w64}
use mir.Val.{SFits}
use lib.Dec.{leb}
use lib.Signed.{le_z, lt_z}
use lib.IntN.{ℤ, pos, negsuc, nat_abs, ◌-ℤ◌}
use lib.ListN.{length}
use borrow.Author.Tests.{leb-true, leb-false}
use Rattle.amount.specs.Amount.{percent}
use Rattle.amount.proofs.Integer.{diff, eq_out, lt_z_true, le_z_true, le_z_false, size_fits, diff_small}
use Rattle.std.specs.Int.{int_max, int_min}
use Rattle.std.proofs.lemmas.Int.{int_max_is, int_min_is}
use Rattle.octets.specs.Octets.{big_endian, money}
use Rattle.rules.specs.Report.{Status, status_bytes, lpo_used, ltk_left, ltk_used}

-- ---- lengths

pub length_status : (l : Status) → length (status_bytes l) ≡ 28
unfolding status_bytes money big_endian
length_status l = refl

-- ---- LTK and LPO

pub used_is : (v s : ℤ) → lt_z v (pos 0) ≡ true → int_max v (int_min s (pos 0)) ≡ ltk_used v s
unfolding ltk_used
used_is v s h = go (le_z (pos 0) s) (le_z s v) refl refl
  where
    go : (a b : Bool) → le_z (pos 0) s ≡ a → le_z s v ≡ b → int_max v (int_min s (pos 0)) ≡ cond a (pos 0) (cond b v s)
    go true b e f = eq_out _ _ (omega (arith, int_max_is v (int_min s (pos 0)), int_min_is s (pos 0), le_z_true (pos 0) s e, lt_z_true v (pos 0) h))
    go false true e f = eq_out _ _ (omega (arith, int_max_is v (int_min s (pos 0)), int_min_is s (pos 0), le_z_false (pos 0) s e, le_z_true s v f))
    go false false e f = eq_out _ _ (omega (arith, int_max_is v (int_min s (pos 0)), int_min_is s (pos 0), le_z_false (pos 0) s e, le_z_false s v f))

pub left_is : (v s : ℤ) → int_max (s -ℤ v) (pos 0) ≡ ltk_left v s
unfolding ltk_left
left_is v s = go (le_z s v) refl
  where
    go : (a : Bool) → le_z s v ≡ a → int_max (s -ℤ v) (pos 0) ≡ cond a (pos 0) (s -ℤ v)
    go true e = eq_out _ _ (omega (arith, int_max_is (s -ℤ v) (pos 0), diff s v, le_z_true s v e))
    go false e = eq_out _ _ (omega (arith, int_max_is (s -ℤ v) (pos 0), diff s v, le_z_false s v e))

pub smaller_is : (v : ℤ) (n : ℕ) → lt_z (pos 0) v ≡ true → pos (min n (nat_abs v)) ≡ lpo_used v n
unfolding lpo_used
smaller_is (negsuc k) n h = absurd (false≢true h)
smaller_is (pos k) n h = go (leb n k) refl
  where
    go : (a : Bool) → leb n k ≡ a → pos (min n k) ≡ cond a (pos n) (pos k)
    go true e = ap pos (omega (arith, leb-true n k e))
    go false e = ap pos (omega (arith, leb-false n k e))

-- ---- sizes

pub percent_most : (u v : ℤ) → nat_abs u ≤ nat_abs v → percent u v ≤ 10000
unfolding percent
percent_most u v h = div-le_of_le-mul (nat_abs v) (omega arith)

pub lpo_used_small : (v : ℤ) (n : ℕ) → nat_abs (lpo_used v n) ≤ nat_abs v
unfolding lpo_used
lpo_used_small v n = go (leb n (nat_abs v)) refl
  where
    go : (b : Bool) → leb n (nat_abs v) ≡ b → nat_abs (cond b (pos n) v) ≤ nat_abs v
    go true e = leb-true n (nat_abs v) e
    go false e = omega arith

pub left_fits : (v u : ℤ) → nat_abs v ≤ 10 ^ 15 → nat_abs u ≤ nat_abs v → SFits w64 (v -ℤ u)
left_fits v u h k = size_fits (v -ℤ u) (omega (arith, diff_small v u (10 ^ 15) (10 ^ 15) h (omega arith)))
