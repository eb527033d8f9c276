-- Laws behind the frame reader: digits and their bytes, and when a line is a frame. Assumes nothing.
use mathlib.Core.Path.{◌≡◌, refl, sym, ap, ◌∙◌}
use mathlib.Core.List.{List, [], ◌∷◌, ◌++◌, append-nil}
use mathlib.Core.Bool.{Bool, true, false, cond, ◌&&◌, and-true}
use Prim.Native.Nat.{ℕ, zero, suc, ◌+◌, ◌*◌, ◌/◌, ◌%◌, ◌<◌, ◌≤◌}
use native.Mathlib.Omega.{arith}
use native.Mathlib.Nat.{zero-add}
use native.Mathlib.Numerals.{add-one}
use borrow.Author.Tests.{le-leb, lt-leb, leb-false, eq-eqb}
use lib.ListN.{length, get_or, take, drop, set, drop_of_length-le}
use lib.Seq.{drop-cons, paste-suc, take_all, take_at}
use lib.Dec.{leb, eqb}
use Rattle.std.specs.Prelude.{Option, Some, None, MatchOption}
use Rattle.octets.proofs.Numbers.{both}
use Rattle.frame.specs.Hex.{nibble, is_hex, all_hex, unhex}
use Rattle.frame.specs.Frame.{is_frame, line_frame, given, read_frame}
use Rattle.frame.proofs.Layouts.{frame_length}
use Rattle.frame.specs.Filled.{Filled}
use Rattle.frame_reader.specs.Unpacked.{is_packed, unpacked, FrameAt}

-- ---- tests

both_false : (a : Bool) → (a && false) ≡ false
both_false true = refl
both_false false = refl

-- ---- a buffer filled from byte 0

-- one more byte of b in front of what is left of d
pub copy_more : (b d : List ℕ) (i v : ℕ) → i < length b → i < length d → v ≡ get_or b i 0
    → set (take i b ++ drop i d) i v ≡ take (i + 1) b ++ drop (i + 1) d
copy_more b d i v hb hd e =
    rw (e, add-one)
    (ap (λ (k : ℕ). set (take i b ++ drop k d) k (get_or b i 0)) (sym (zero-add i))
    ∙ paste-suc d 0 b i 0 (rw zero-add hd) hb
    ∙ ap (λ (k : ℕ). take (suc i) b ++ drop k d) (zero-add (suc i)))

-- ---- digits

-- the next digit
pub hex_more : (l : List ℕ) (i : ℕ) (a : Bool) → i < length l → (a && all_hex (drop i l)) ≡ all_hex l
    → ((a && is_hex (get_or l i 0)) && all_hex (drop (i + 1) l)) ≡ all_hex l
unfolding all_hex
hex_more l i false h e = e
hex_more l i true h e = ap all_hex (ap (λ (k : ℕ). get_or l i 0 ∷ drop k l) (add-one i) ∙ sym (drop-cons l i 0 h)) ∙ e

-- and none left
pub hex_end : (l : List ℕ) (i : ℕ) (a : Bool) → length l ≤ i → (a && all_hex (drop i l)) ≡ all_hex l → a ≡ all_hex l
unfolding all_hex
hex_end l i a h e = sym (and-true a) ∙ ap (λ (t : List ℕ). a && all_hex t) (sym (drop_of_length-le l h)) ∙ e

-- each digit of a line of them
pub hex_at : (l : List ℕ) (i : ℕ) → all_hex l ≡ true → i < length l → is_hex (get_or l i 0) ≡ true
unfolding all_hex
hex_at [] i e h = absurd (omega arith)
hex_at (d ∷ t) zero e h = (both (is_hex d) _ e).0
hex_at (d ∷ t) (suc i) e h = hex_at t i (both (is_hex d) _ e).1 (omega arith)

-- ---- the bytes of digits

pub unhex_length : (l : List ℕ) → length (unhex l) ≡ length l / 2
unfolding unhex
unhex_length [] = refl
unhex_length (h ∷ []) = refl
unhex_length (h ∷ g ∷ t) = let e : length (unhex t) ≡ length t / 2 = unhex_length t in omega arith

pub unhex_at : (l : List ℕ) (i : ℕ) → 2 * i + 1 < length l
    → get_or (unhex l) i 0 ≡ nibble (get_or l (2 * i) 0) * 16 + nibble (get_or l (2 * i + 1) 0)
unfolding unhex
unhex_at [] i h = absurd (omega arith)
unhex_at (a ∷ []) i h = absurd (omega arith)
unhex_at (a ∷ b ∷ t) zero h = refl
unhex_at (a ∷ b ∷ t) (suc i) h =
    let e : 2 * suc i ≡ suc (suc (2 * i)) = omega arith in
    let f : 2 * suc i + 1 ≡ suc (suc (2 * i + 1)) = omega arith in
    rw (f, e) (unhex_at t i (omega arith))

-- all of them
pub unhex_end : (l d : List ℕ) (i : ℕ) → length l ≡ 2 * i → length d ≡ i → take i (unhex l) ++ drop i d ≡ unhex l
unhex_end l d i h e =
    let f : length (unhex l) ≤ i = omega (arith, unhex_length l) in
    let g : length d ≤ i = omega arith in
    rw (take_all i (unhex l) f, drop_of_length-le d g) (append-nil (unhex l))

-- ---- the frame that a line is

module _ (line : List ℕ) where
  -- no frame has over 352 bytes
  too_long : 352 < length line / 2 → is_frame (unhex line) ≡ false
  too_long h = go (is_frame (unhex line)) refl
    where
      go : (t : Bool) → is_frame (unhex line) ≡ t → t ≡ false
      go true e = absurd (omega (arith, frame_length (unhex line) e, unhex_length line))
      go false e = refl

  pub long : 352 < length line / 2 → line_frame line ≡ []
  unfolding line_frame
  long h = rw (too_long h, both_false)

  -- read into a buffer of `room` bytes
  pub no_room : (room : ℕ) → room < 352 → read_frame line room ≡ []
  unfolding read_frame given
  no_room room h = ap (λ (t : Bool). cond t (line_frame line) []) (lt-leb 352 room h)

  pub roomy : (room : ℕ) → 352 ≤ room → read_frame line room ≡ line_frame line
  unfolding read_frame given
  roomy room h = ap (λ (t : Bool). cond t (line_frame line) []) (le-leb 352 room h)

-- ---- unpacked

no_bytes : (b : Bool) (none : List ℕ) → cond b none none ≡ none
no_bytes true none = refl
no_bytes false none = refl

module _ (line : List ℕ) where
  pub unread : is_packed line ≡ false → (entry : List ℕ) → Filled (unpacked line) entry entry 0
  unfolding unpacked
  unread e entry = rw e (record { length_is = refl; bytes_are = refl })

  pub read_digits : length line % 2 ≡ 0 → length line / 2 ≤ 352 → all_hex line ≡ true → (entry exit : List ℕ) → exit ≡ unhex line ++ drop (length line / 2) entry
      → Filled (unpacked line) entry exit (length line / 2)
  unfolding unpacked is_packed
  read_digits v s x entry exit w =
      rw (eq-eqb (length line % 2) 0 v, le-leb (length line / 2) 352 s, x)
      (record { length_is = sym (unhex_length line); bytes_are = rw (unhex_length line) w })

  -- the frame that a line is, told of its bytes
  pub line_frame_lem : cond (is_frame (unpacked line)) (unpacked line) [] ≡ line_frame line
  unfolding unpacked is_packed line_frame
  line_frame_lem = go (eqb (length line % 2) 0) (leb (length line / 2) 352) (all_hex line) (λ e. too_long line (leb-false (length line / 2) 352 e))
    where
      go : (a b c : Bool) → (b ≡ false → is_frame (unhex line) ≡ false)
          → cond (is_frame (cond ((a && b) && c) (unhex line) [])) (cond ((a && b) && c) (unhex line) []) [] ≡ cond ((a && c) && is_frame (unhex line)) (unhex line) []
      go true true true h = refl
      go true true false h = no_bytes (is_frame []) []
      go true false true h = no_bytes (is_frame []) [] ∙ sym (ap (λ (t : Bool). cond t (unhex line) []) (h refl))
      go true false false h = no_bytes (is_frame []) []
      go false b c h = no_bytes (is_frame []) []

-- unpacked into a buffer
module _ (line entry exit : List ℕ) (m : ℕ) (f : Filled (unpacked line) entry exit m) where
  front : take m exit ≡ unpacked line
  front = rw f.bytes_are (take_at (unpacked line) (drop (length (unpacked line)) entry) m (sym f.length_is))

  pub frame_at : (r : Option ℕ) → r ≡ cond (is_frame (take m exit)) (Some (length (take m exit))) None → MatchOption r (line_frame line ≡ []) (λ n. (is_frame (line_frame line) ≡ true) × FrameAt line exit n)
  frame_at r e = go (is_frame (unpacked line)) refl
    where
      go : (b : Bool) → is_frame (unpacked line) ≡ b → MatchOption r (line_frame line ≡ []) (λ n. (is_frame (line_frame line) ≡ true) × FrameAt line exit n)
      go true t =
          let all : line_frame line ≡ unpacked line = sym (line_frame_lem line) ∙ ap (λ (b : Bool). cond b (unpacked line) []) t in
          rw (e, front, t) (rw all t, record { length_is = ap length (sym all); frame_is = ap (λ (k : ℕ). take k exit) (sym f.length_is) ∙ front ∙ sym all })
      go false t = rw (e, front, t) (sym (line_frame_lem line) ∙ ap (λ (b : Bool). cond b (unpacked line) []) t)

-- what is no bytes is no frame
pub unframed : (line : List ℕ) → is_packed line ≡ false → line_frame line ≡ []
unframed line e = sym (line_frame_lem line) ∙ let n : unpacked line ≡ [] = unfold unpacked in rw e in rw n (no_bytes (is_frame []) [])
