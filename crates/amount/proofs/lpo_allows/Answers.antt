use Prim.Native.Nat.{ℕ, zero, suc}
use native.Mathlib.Omega.{arith}
use mathlib.Core.Path.{◌≡◌, refl}
use mathlib.Core.Bool.{true, false}
use mir.Syntax.{w64}
use mir.Val.{of_z}
use mir.Facts.{to_z-of_z}
use lib.Dec.{leb}
use lib.IntN.{ℤ, pos, negsuc, nat_abs}
use lib.Signed.{lt_z}
use Rattle.amount.specs.Amount.{cap_allows}
use Rattle.amount.proofs.Integer.{bits_zero, ints, told, lt_z_true, lt_z_false}
use Rattle.amount.proofs.lpo_allows.Goals as goal

above : (v : ℤ) (n : ℕ) → lt_z (pos 0) v ≡ true → leb n (nat_abs v) ≡ cap_allows v n
unfolding cap_allows
above (pos zero) n e = absurd (omega (arith, lt_z_true (pos 0) (pos zero) e))
above (pos (suc v)) n e = refl
above (negsuc v) n e = absurd (omega (arith, lt_z_true (pos 0) (negsuc v) e))

below : (v : ℤ) (n : ℕ) → (of_z w64 v ≡ 0 → ⊥) → lt_z (pos 0) v ≡ false → false ≡ cap_allows v n
unfolding cap_allows
below (pos zero) n h e = absurd (h refl)
below (pos (suc v)) n h e = absurd (omega (arith, lt_z_false (pos 0) (pos (suc v)) e))
below (negsuc v) n h e = refl

pub overflow_cast-result : goal.overflow_cast-result
overflow_cast-result c = omega (arith, ints, told c.before.before.ranges.lpo)

pub returns-then-lpo-eq0 : goal.returns-then-lpo-eq0
unfolding cap_allows
returns-then-lpo-eq0 c = rw (bits_zero c.before.ranges.lpo c.if-lpo-eq0.true)

pub returns-then-lpo-gt0 : goal.returns-then-lpo-gt0
returns-then-lpo-gt0 c =
    let s = c.before.before in
    let f = to_z-of_z s.ranges.lpo in
    rw f (above s.args.lpo s.args.icdt (rw f at c.if-lpo-gt0.true))

pub returns-else-lpo-gt0 : goal.returns-else-lpo-gt0
returns-else-lpo-gt0 c =
    let s = c.before.before in
    below s.args.lpo s.args.icdt c.before.if-lpo-eq0.false (rw (to_z-of_z s.ranges.lpo) at c.if-lpo-gt0.false)
