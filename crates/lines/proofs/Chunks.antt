-- Lines in front of a text, and a text read further. Assumes nothing.
use mathlib.Core.Path.{◌≡◌, refl, sym, ap, ◌∙◌}
use mathlib.Core.Bool.{Bool, true, false, cond}
use mathlib.Core.List.{List, [], ◌∷◌, ◌++◌, append_assoc}
use Prim.Native.Nat.{ℕ, suc}
use native.Mathlib.Omega.{arith}
use lib.Dec.{eqb}
use lib.ListN.{length, take, drop, take-append-drop}
use Rattle.lines.specs.Text.{line_length, push, whole_lines, joined}

-- lines with no end inside
unfoldable pub Clean : List (List ℕ) → Type 0
Clean [] = Unit
Clean (l ∷ ls) = (line_length l ≡ length l) × Clean ls

pub clean_left : (a b : List (List ℕ)) → Clean (a ++ b) → Clean a
unfolding Clean
clean_left [] b h = tt
clean_left (l ∷ a) b h = (h.0, clean_left a b h.1)

pub clean_whole : (s : List ℕ) → Clean (whole_lines s)
unfolding Clean whole_lines line_length
clean_whole [] = tt
clean_whole (b ∷ t) = go (eqb b 10) refl (whole_lines t) (clean_whole t)
  where
    go : (q : Bool) → eqb b 10 ≡ q → (ls : List (List ℕ)) → Clean ls → Clean (cond q ([] ∷ ls) (push b ls))
    go true e ls h = (refl, h)
    go false e [] h = tt
    go false e (l ∷ ls) h = (rw e (ap suc h.0), h.1)

-- a line with its end in front
pub line_in : (l t : List ℕ) → line_length l ≡ length l → whole_lines ((l ++ (10 ∷ [])) ++ t) ≡ l ∷ whole_lines t
unfolding whole_lines line_length
line_in [] t h = refl
line_in (b ∷ l) t h = go (eqb b 10) h (λ k. line_in l t k)
  where
    go : (q : Bool) → cond q 0 (suc (line_length l)) ≡ suc (length l) → (line_length l ≡ length l → whole_lines ((l ++ (10 ∷ [])) ++ t) ≡ l ∷ whole_lines t)
        → cond q ([] ∷ whole_lines ((l ++ (10 ∷ [])) ++ t)) (push b (whole_lines ((l ++ (10 ∷ [])) ++ t))) ≡ (b ∷ l) ∷ whole_lines t
    go true e r = absurd (omega arith)
    go false e r = ap (push b) (r (omega arith))

pub whole_joined : (ls : List (List ℕ)) (t : List ℕ) → Clean ls → whole_lines (joined ls ++ t) ≡ ls ++ whole_lines t
unfolding Clean joined
whole_joined [] t h = refl
whole_joined (l ∷ ls) t h =
    ap whole_lines (append_assoc (l ++ (10 ∷ [])) (joined ls) t) ∙ line_in l (joined ls ++ t) h.0 ∙ ap (λ (m : List (List ℕ)). l ∷ m) (whole_joined ls t h.1)

-- what is read more does not change the lines read so far
pub carry : (s more : List ℕ) (ls : List (List ℕ)) (read : ℕ) → joined ls ≡ take read s → whole_lines s ≡ ls ++ whole_lines (drop read s)
    → whole_lines (s ++ more) ≡ ls ++ whole_lines (drop read s ++ more)
carry s more ls read j w =
    let c : Clean ls = clean_left ls (whole_lines (drop read s)) (rw w at (clean_whole s)) in
    let e : s ++ more ≡ joined ls ++ (drop read s ++ more) =
    ap (λ (l : List ℕ). l ++ more) (sym (take-append-drop read s)) ∙ append_assoc (take read s) (drop read s) more ∙ ap (λ (l : List ℕ). l ++ (drop read s ++ more)) (sym j) in
    ap whole_lines e ∙ whole_joined ls (drop read s ++ more) c
