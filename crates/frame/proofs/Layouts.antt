-- Laws behind the test of a frame: the layout that a kind byte chooses, how long a frame may be, and a buffer filled with one. Assumes nothing.
use mathlib.Core.Path.{◌≡◌, refl, sym, ap, ◌∙◌}
use mathlib.Core.List.{List, [], ◌∷◌}
use mathlib.Core.Bool.{Bool, true, false, cond, ◌&&◌}
use mathlib.Core.Logic.{◌⊎◌, inl, inr}
use Prim.Native.Nat.{ℕ, ◌+◌, ◌*◌, ◌<◌, ◌≤◌}
use native.Mathlib.Omega.{arith}
use native.Mathlib.Nat.{mul-le-mul_right}
use native.Mathlib.Decide.{dec_le}
use borrow.Author.Tests.{leb-true, eqb-true}
use lib.ListN.{length, drop, get_or}
use lib.Dec.{leb, eqb}
use Rattle.octets.proofs.Numbers.{both}
use Rattle.rules.specs.Command.{is_count, is_few}
use Rattle.frame_fields.specs.Conditions.{are_conditions}
use Rattle.frame.proofs.Texts.{conditions_most}
use Rattle.frame.specs.Field.{Field, Code, UpTo, Second, Free, Items, Conditions, Never, size, row_size, width, may, are_fields}
use Rattle.frame.specs.Frame.{Kind, kind_byte, kinds, with_byte, kinds_at, fields_of, layout_of, layout, is_frame}
use Rattle.frame.specs.Filled.{Filled}
use Rattle.frame.proofs.Commands.{kind_none, Unless, unless_none}

-- ---- the layout that the kind byte x chooses

pub kind : (b : List ℕ) (x k : ℕ) (r : Bool) → x ≡ k → x ≡ get_or b 0 0 → r ≡ are_fields (layout k) b 1 → r ≡ is_frame b
unfolding is_frame
kind b x k r e f g = g ∙ ap (λ (n : ℕ). are_fields (layout n) b 1) (sym e ∙ f)

-- kinds 01 and 13 have one layout
pub kind_code : (b : List ℕ) (x : ℕ) (r : Bool) → (x ≡ 1) ⊎ (x ≡ 19) → x ≡ get_or b 0 0 → r ≡ are_fields (layout 1) b 1 → r ≡ is_frame b
unfolding layout kinds fields_of
kind_code b x r (inl e) f g = kind b x 1 r e f g
kind_code b x r (inr e) f g = kind b x 19 r e f g

-- kinds 3 and 4 have one layout
pub kind_three : (b : List ℕ) (x : ℕ) (r : Bool) → 3 ≤ x → x < 5 → x ≡ get_or b 0 0 → r ≡ are_fields (layout 3) b 1 → r ≡ is_frame b
unfolding layout kinds fields_of
kind_three b x r lo hi f g = go (dec_le x 3)
  where
    go : Dec (x ≤ 3) → r ≡ is_frame b
    go (yes p) = kind b x 3 r (omega arith) f g
    go (no p) = kind b x 4 r (omega arith) f g

-- a byte that is no kind's
pub kind_other : (b : List ℕ) (x : ℕ) → x ≡ get_or b 0 0 → Unless kinds x (false ≡ is_frame b)
unfolding kinds_at
kind_other b x f = unless_none kinds x (false ≡ is_frame b) (λ e. sym (kind_none b (ap kinds_at (sym f) ∙ e)))

pub from_three : (x : ℕ) → 1 ≤ x → (x ≡ 1 → ⊥) → (x ≡ 2 → ⊥) → 3 ≤ x
from_three x h a b = omega arith

-- ---- a frame has at most 352 bytes

-- how many bytes such a field can take, and such fields
most : Field → ℕ
most Code = 6
most (UpTo m) = 1
most Second = 4
most (Free p) = size p
most (Items ps) = 1 + 16 * row_size ps
most Conditions = 1 + 8 * 12
most Never = 0

within : (f : Field) (b : List ℕ) (i : ℕ) → may f b i ≡ true → width f b i ≤ most f
unfolding most width may is_count is_few
within Code b i e = omega arith
within (UpTo m) b i e = omega arith
within Second b i e = omega arith
within (Free p) b i e = omega arith
within (Items ps) b i e = omega (arith, mul-le-mul_right (row_size ps) (leb-true (get_or b i 0) 16 (both (leb 1 (get_or b i 0)) _ e).1))
within Conditions b i e =
    let n = get_or b i 0 in
    let q = both (is_few n) (are_conditions n (drop (i + 1) b)) e in
    omega (arith, conditions_most n (drop (i + 1) b) q.1, leb-true n 8 (both (leb 1 n) _ q.0).1)
within Never b i e = omega arith

reach : List Field → ℕ
reach [] = 0
reach (f ∷ fs) = most f + reach fs

fields_length : (fs : List Field) (b : List ℕ) (i : ℕ) → are_fields fs b i ≡ true → length b ≤ i + reach fs
unfolding are_fields reach
fields_length [] b i e = omega (arith, eqb-true (length b) i e)
fields_length (f ∷ fs) b i e =
    let h = both (may f b i) _ e in
    omega (arith, fields_length fs b (i + width f b i) h.1, within f b i h.0)

short : List Kind → Bool
short [] = true
short (k ∷ ks) = leb (reach (fields_of k)) 351 && short ks

shorts : (ks : List Kind) (n : ℕ) → short ks ≡ true → reach (layout_of (with_byte n ks)) ≤ 351
unfolding short with_byte layout_of reach most
shorts [] n e = omega arith
shorts (k ∷ ks) n e =
    let h = both (leb (reach (fields_of k)) 351) (short ks) e in
    elim (eqb (kind_byte k) n) as (λ (t : Bool). reach (layout_of (cond t (k ∷ with_byte n ks) (with_byte n ks))) ≤ 351)
    [ true ↦ leb-true (reach (fields_of k)) 351 h.0 | false ↦ shorts ks n h.1 ]

pub frame_length : (b : List ℕ) → is_frame b ≡ true → length b ≤ 352
unfolding is_frame layout kinds fields_of short reach most size row_size
frame_length b e =
    let h : reach (layout (get_or b 0 0)) ≤ 351 = shorts kinds (get_or b 0 0) refl in
    omega (arith, fields_length (layout (get_or b 0 0)) b 1 e)

-- ---- a buffer filled from byte 0

-- nothing got, and something
pub filled_none : (got d : List ℕ) → got ≡ [] → Filled got d d 0
filled_none got d e = rw e (record { length_is = refl; bytes_are = refl })

pub filled_some : (got b d e : List ℕ) (r : ℕ) → got ≡ b → Filled b d e r → Filled got d e r
filled_some got b d e r g h = rw g h
