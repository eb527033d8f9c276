-- What the next line's end says. Assumes nothing.
use mathlib.Core.Path.{◌≡◌, refl, sym, ap, subst, ◌∙◌}
use mathlib.Core.Bool.{Bool, true, false, cond}
use mathlib.Core.Logic.{◌⊎◌, inl, inr}
use mathlib.Core.List.{List, []}
use Prim.Native.Nat.{ℕ, ◌+◌, ◌-◌, ◌≤◌, ◌<◌}
use native.Mathlib.Omega.{arith}
use borrow.Author.Tests.{leb-true, leb-false, le-leb, lt-leb}
use lib.Dec.{leb}
use lib.ListN.{length, take, drop, length-drop}
use lib.Seq.{take_all, length-take-le}
use Rattle.std.proofs.Common.{Option, Some, None}
use Rattle.std.specs.Option.{unwrap_or}
use Rattle.memchr.specs.Find.{IsFirstByte, is_byte}
use Rattle.lines.specs.Text.{line_length, whole_lines, next_end, answer_room}
use Rattle.lines.proofs.Laws.{length_line, line_found, no_line}

pub no_room : (input : List ℕ) (from room : ℕ) → room < answer_room → next_end input from room ≡ length input
unfolding next_end
no_room input from room h = rw (lt-leb answer_room room h) refl

-- what `memchr` answers of what is left of the text, where there is room
module _ (input : List ℕ) (from room : ℕ) (h : from ≤ length input) (w : answer_room ≤ room) (r : Option ℕ)
    (m : IsFirstByte (is_byte 10) (take (length input - from) (drop from input)) r) where
  left : length input - from ≡ length (drop from input)
  left = sym (length-drop from input)

  end_is : from + unwrap_or r (length input - from) ≡ next_end input from room
  unfolding next_end
  end_is = rw (le-leb answer_room room w, left, line_found (drop from input) r (rw (take_all (length input - from) (drop from input) (omega (arith, left))) at m)) refl

  pub end_none : r ≡ None → next_end input from room ≡ length input
  end_none e = omega (arith, rw e at end_is)

  pub end_some : (n : ℕ) → r ≡ Some n → (from + n ≡ next_end input from room) × (from + n < length input)
  end_some n e = (rw e at end_is, below (subst (IsFirstByte (is_byte 10) (take (length input - from) (drop from input))) e m))
    where
      below : IsFirstByte (is_byte 10) (take (length input - from) (drop from input)) (Some n) → from + n < length input
      below (first, here) = omega (arith, first.high, left, length-take-le (length input - from) (drop from input) (omega (arith, left)))

-- before the text's end it ends a line, and there is room; there it says that no whole line or no room is left
pub record NextIs (input : List ℕ) (from room r : ℕ) : Type 0 where
  pub within : r ≤ length input
  pub found : r < length input → (r ≡ from + line_length (drop from input)) × (answer_room ≤ room)
  pub done : length input ≤ r → (whole_lines (drop from input) ≡ []) ⊎ (room < answer_room)

pub next_is : (input : List ℕ) (from room r : ℕ) → from ≤ length input → r ≡ next_end input from room → NextIs input from room r
unfolding next_end
next_is input from room r h e = go (leb answer_room room) refl
  where
    go : (b : Bool) → leb answer_room room ≡ b → NextIs input from room r
    go true f =
        let q : r ≡ from + line_length (drop from input) = e ∙ ap (λ (b : Bool). cond b (from + line_length (drop from input)) (length input)) f in
        record {
          within = omega (arith, length_line (drop from input), length-drop from input);
          found = λ l. (q, leb-true answer_room room f);
          done = λ l. inl (no_line input from r q l);
        }
    go false f =
        let q : r ≡ length input = e ∙ ap (λ (b : Bool). cond b (from + line_length (drop from input)) (length input)) f in
        record { within = omega arith; found = λ l. absurd (omega arith); done = λ l. inr (leb-false answer_room room f) }
