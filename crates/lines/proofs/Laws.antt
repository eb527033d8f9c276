-- Laws of lines and of the printed form. Assumes nothing.
use mathlib.Core.Path.{◌≡◌, refl, sym, ap, ◌∙◌}
use mathlib.Core.Bool.{Bool, true, false, cond}
use mathlib.Core.List.{List, [], ◌∷◌, ◌++◌, append_assoc, append-nil}
use Prim.Native.Nat.{ℕ, zero, suc, ◌+◌, ◌*◌, ◌-◌, ◌≤◌, ◌<◌}
use native.Mathlib.Numerals.{add-one}
use native.Mathlib.Omega.{arith}
use lib.Dec.{eqb}
use lib.ListN.{length, take, drop, get_or, length-append, length-drop}
use lib.Seq.{drop-drop, take-add}
use borrow.Author.Tests.{eq-eqb, ne_eqb, eqb-true}
use Rattle.std.proofs.Common.{Option, Some, None}
use Rattle.std.specs.Option.{unwrap_or}
use Rattle.memchr.specs.Find.{IsFirstByte, is_byte}
use Rattle.frame.specs.Hex.{hex}
use Rattle.hex_writer.proofs.Laws.{hex_length}
use Rattle.lines.specs.Text.{line_length, push, whole_lines, joined, printed}

-- ---- the next line

pub length_line : (s : List ℕ) → line_length s ≤ length s
unfolding line_length
length_line [] = omega arith
length_line (b ∷ t) = go (eqb b 10) (length_line t)
  where
    go : (q : Bool) → line_length t ≤ length t → cond q 0 (suc (line_length t)) ≤ suc (length t)
    go true h = omega arith
    go false h = omega arith

-- no byte before the n-th is a line end, and the n-th is, where there is one
first_end : (s : List ℕ) (n : ℕ) → n ≤ length s → ((k : ℕ) → k < n → ¬ (get_or s k 0 ≡ 10)) → (n < length s → get_or s n 0 ≡ 10) → line_length s ≡ n
unfolding line_length
first_end [] n h none here = omega arith
first_end (b ∷ t) zero h none here = rw (eq-eqb b 10 (here (omega arith)))
first_end (b ∷ t) (suc n) h none here =
    rw (ne_eqb b 10 (none 0 (omega arith)))
    (ap suc (first_end t n (omega arith) (λ k l. none (suc k) (omega arith)) (λ l. here (omega arith))))

-- what `memchr` answers
pub line_found : (s : List ℕ) (r : Option ℕ) → IsFirstByte (is_byte 10) s r → unwrap_or r (length s) ≡ line_length s
line_found s None none = sym (first_end s (length s) (omega arith) (λ k l e. none k (omega arith) l (eq-eqb (get_or s k 0) 10 e)) (λ l. absurd (omega arith)))
line_found s (Some n) (first, here) =
    sym (first_end s n (omega (arith, first.high)) (λ k l e. first.before k (omega arith) l (eq-eqb (get_or s k 0) 10 e)) (λ l. eqb-true (get_or s n 0) 10 here))

pub whole_first : (s : List ℕ) → line_length s < length s → whole_lines s ≡ take (line_length s) s ∷ whole_lines (drop (suc (line_length s)) s)
unfolding line_length whole_lines
whole_first [] h = absurd (omega arith)
whole_first (b ∷ t) h = go (eqb b 10) (λ k. whole_first t k) h
  where
    go : (q : Bool) → (line_length t < length t → whole_lines t ≡ take (line_length t) t ∷ whole_lines (drop (suc (line_length t)) t))
        → cond q 0 (suc (line_length t)) < suc (length t)
        → cond q ([] ∷ whole_lines t) (push b (whole_lines t))
        ≡ take (cond q 0 (suc (line_length t))) (b ∷ t) ∷ whole_lines (drop (cond q 0 (suc (line_length t))) t)
    go true r g = refl
    go false r g = ap (push b) (r (omega arith))

pub whole_none : (s : List ℕ) → length s ≤ line_length s → whole_lines s ≡ []
unfolding line_length whole_lines
whole_none [] h = refl
whole_none (b ∷ t) h = go (eqb b 10) (λ k. whole_none t k) h
  where
    go : (q : Bool) → (length t ≤ line_length t → whole_lines t ≡ []) → suc (length t) ≤ cond q 0 (suc (line_length t))
        → cond q ([] ∷ whole_lines t) (push b (whole_lines t)) ≡ []
    go true r g = absurd (omega arith)
    go false r g = ap (push b) (r (omega arith))

-- the line's end stands behind it
pub end_at : (s : List ℕ) → line_length s < length s → take (suc (line_length s)) s ≡ take (line_length s) s ++ (10 ∷ [])
unfolding line_length
end_at [] h = absurd (omega arith)
end_at (b ∷ t) h = go (eqb b 10) refl (λ k. end_at t k) h
  where
    go : (q : Bool) → eqb b 10 ≡ q → (line_length t < length t → take (suc (line_length t)) t ≡ take (line_length t) t ++ (10 ∷ []))
        → cond q 0 (suc (line_length t)) < suc (length t)
        → take (suc (cond q 0 (suc (line_length t)))) (b ∷ t) ≡ take (cond q 0 (suc (line_length t))) (b ∷ t) ++ (10 ∷ [])
    go true e r g = ap (λ (x : ℕ). x ∷ []) (eqb-true b 10 e)
    go false e r g = ap (λ (l : List ℕ). b ∷ l) (r (omega arith))

-- ---- lines with their ends

pub joined_append : (a b : List (List ℕ)) → joined (a ++ b) ≡ joined a ++ joined b
unfolding joined
joined_append [] b = refl
joined_append (l ∷ a) b = rw (joined_append a b) (sym (append_assoc (l ++ (10 ∷ [])) (joined a) (joined b)))

pub joined_snoc : (ls : List (List ℕ)) (l : List ℕ) → joined (ls ++ (l ∷ [])) ≡ joined ls ++ (l ++ (10 ∷ []))
unfolding joined
joined_snoc ls l = joined_append ls (l ∷ []) ∙ ap (λ (t : List ℕ). joined ls ++ t) (append-nil (l ++ (10 ∷ [])))

pub joined_none : (a : List (List ℕ)) → length (joined a) ≡ 0 → a ≡ []
unfolding joined
joined_none [] e = refl
joined_none (l ∷ a) e = absurd (omega (arith, length-append (l ++ (10 ∷ [])) (joined a), length-append l (10 ∷ [])))

-- ---- one line more is read, from the place `from` on

module _ (s : List ℕ) (from : ℕ) (ls : List (List ℕ)) (h : line_length (drop from s) < length (drop from s)) where
  pub read_whole : whole_lines s ≡ ls ++ whole_lines (drop from s)
      → whole_lines s ≡ (ls ++ (take (line_length (drop from s)) (drop from s) ∷ [])) ++ whole_lines (drop (from + (line_length (drop from s) + 1)) s)
  read_whole e =
      rw (append_assoc, ← drop-drop (line_length (drop from s) + 1) from s, add-one)
      (e ∙ ap (λ (t : List (List ℕ)). ls ++ t) (whole_first (drop from s) h))

  pub read_joined : joined ls ≡ take from s
      → joined (ls ++ (take (line_length (drop from s)) (drop from s) ∷ [])) ≡ take (from + (line_length (drop from s) + 1)) s
  read_joined e =
      rw (joined_snoc, e, take-add from (line_length (drop from s) + 1) s, add-one, end_at (drop from s) h)

-- the same at the place e where the line ends
module _ (s : List ℕ) (from e : ℕ) (is : e ≡ from + line_length (drop from s)) where
  pub no_line : length s ≤ e → whole_lines (drop from s) ≡ []
  no_line h = whole_none (drop from s) (omega (arith, length-drop from s))

  module _ (h : e < length s) where
    inside : line_length (drop from s) < length (drop from s)
    inside = rw length-drop (omega arith)

    line_is : take (line_length (drop from s)) (drop from s) ≡ take (e - from) (drop from s)
    line_is = let n : line_length (drop from s) ≡ e - from = omega arith in ap (λ (k : ℕ). take k (drop from s)) n

    behind : from + (line_length (drop from s) + 1) ≡ e + 1
    behind = omega arith

    pub next_line : whole_lines (drop from s) ≡ take (e - from) (drop from s) ∷ whole_lines (drop (e + 1) s)
    next_line = rw (← line_is, ← behind, ← drop-drop (line_length (drop from s) + 1) from s, add-one) (whole_first (drop from s) inside)

    pub next_whole : (ls : List (List ℕ)) → whole_lines s ≡ ls ++ whole_lines (drop from s)
        → whole_lines s ≡ (ls ++ (take (e - from) (drop from s) ∷ [])) ++ whole_lines (drop (e + 1) s)
    next_whole ls w = rw (← line_is, ← behind) (read_whole s from ls inside w)

    pub next_joined : (ls : List (List ℕ)) → joined ls ≡ take from s → joined (ls ++ (take (e - from) (drop from s) ∷ [])) ≡ take (e + 1) s
    next_joined ls j = rw (← line_is, ← behind) (read_joined s from ls inside j)

-- ---- the printed form

pub printed_length : (a : ℕ) (r : List ℕ) → length (printed a r) ≡ 2 * length r + 3
unfolding printed
printed_length a r = omega (arith, length-append (hex r) (10 ∷ []), hex_length r)
