-- Laws of the begun line of a text. Assumes nothing.
use mathlib.Core.Path.{◌≡◌, refl, sym, ap, ap₂, ◌∙◌}
use mathlib.Core.Bool.{Bool, true, false, cond}
use mathlib.Core.List.{List, [], ◌∷◌, ◌++◌, append_assoc, append-nil}
use Prim.Native.Nat.{ℕ, suc, zero, ◌+◌, ◌≤◌}
use native.Mathlib.Omega.{arith}
use lib.Dec.{eqb}
use lib.ListN.{length, take, drop, take-append-drop, length-append}
use lib.Seq.{take-nil, drop-drop, drop-append-add, length-take-le}
use borrow.Author.Tests.{eqb-true}
use Rattle.lines.specs.Text.{push, whole_lines, joined}
use Rattle.lines.proofs.Laws.{joined_append}
use Rattle.lines.proofs.Chunks.{clean_whole, whole_joined, carry}
use Rattle.tally_feed.specs.Reads.{begun}

-- the lines with their ends are the text's front, and the begun line is the rest of it
front_lines : (s : List ℕ) → joined (whole_lines s) ≡ take (length (joined (whole_lines s))) s
unfolding whole_lines joined
front_lines [] = refl
front_lines (b ∷ t) = go (eqb b 10) refl (whole_lines t) (front_lines t)
  where
    go : (q : Bool) → eqb b 10 ≡ q → (ls : List (List ℕ)) → joined ls ≡ take (length (joined ls)) t
        → joined (cond q ([] ∷ ls) (push b ls)) ≡ take (length (joined (cond q ([] ∷ ls) (push b ls)))) (b ∷ t)
    go true e ls h = ap₂ (λ (x : ℕ) (l : List ℕ). x ∷ l) (sym (eqb-true b 10 e)) h
    go false e [] h = refl
    go false e (l ∷ ls) h = ap (λ (m : List ℕ). b ∷ m) h

in_two : (s : List ℕ) → joined (whole_lines s) ++ begun s ≡ s
unfolding begun
in_two s = ap (λ (l : List ℕ). l ++ drop (length (joined (whole_lines s))) s) (front_lines s) ∙ take-append-drop (length (joined (whole_lines s))) s

no_more : (ls more : List (List ℕ)) → ls ≡ ls ++ more → more ≡ []
no_more ls [] e = refl
no_more ls (l ∷ more) e = absurd (omega (arith, ap (λ (m : List (List ℕ)). length m) e, length-append ls (l ∷ more)))

pub none_begun : (s : List ℕ) → whole_lines (begun s) ≡ []
none_begun s = no_more (whole_lines s) (whole_lines (begun s)) (ap whole_lines (sym (in_two s)) ∙ whole_joined (whole_lines s) (begun s) (clean_whole s))

-- a text whose first lines are played: behind them stands the same begun line
module _ (s : List ℕ) (ls : List (List ℕ)) (read : ℕ) (within : read ≤ length s) (taken : joined ls ≡ take read s) (rest : whole_lines s ≡ ls ++ whole_lines (drop read s)) where
  pub rest_begun : begun (drop read s) ≡ begun s
  unfolding begun
  rest_begun =
      let d = drop read s in
      let n : length (joined (whole_lines s)) ≡ read + length (joined (whole_lines d)) =
      ap (λ (m : List (List ℕ)). length (joined m)) rest ∙ ap length (joined_append ls (whole_lines d)) ∙ length-append (joined ls) (joined (whole_lines d))
      ∙ ap (λ k. k + length (joined (whole_lines d))) (ap length taken ∙ length-take-le read s within) in
      drop-drop (length (joined (whole_lines d))) read s ∙ ap (λ k. drop k s) (sym n)

-- a text without a line end is a begun line
pub all_begun : (s : List ℕ) → whole_lines s ≡ [] → begun s ≡ s
unfolding begun joined
all_begun s e = ap (λ (ls : List (List ℕ)). drop (length (joined ls)) s) e

-- ---- a text that is read further

module _ (s more : List ℕ) where
  pub lines_on : whole_lines (s ++ more) ≡ whole_lines s ++ whole_lines (begun s ++ more)
  unfolding begun
  lines_on =
      carry s more (whole_lines s) (length (joined (whole_lines s))) (front_lines s)
      (sym (ap (λ (m : List (List ℕ)). whole_lines s ++ m) (none_begun s) ∙ append-nil (whole_lines s)))

  pub begun_on : begun (s ++ more) ≡ begun (begun s ++ more)
  unfolding begun
  begun_on =
      let j = joined (whole_lines s) in
      let d = begun s ++ more in
      let n : length (joined (whole_lines (s ++ more))) ≡ length j + length (joined (whole_lines d)) =
      ap (λ (ls : List (List ℕ)). length (joined ls)) lines_on ∙ ap length (joined_append (whole_lines s) (whole_lines d)) ∙ length-append j (joined (whole_lines d)) in
      let t : s ++ more ≡ j ++ d = ap (λ (l : List ℕ). l ++ more) (sym (in_two s)) ∙ append_assoc j (begun s) more in
      ap₂ (λ k (l : List ℕ). drop k l) n t ∙ drop-append-add j d (length (joined (whole_lines d)))

-- ---- bytes with no line end in front of a text: they are the front of its first line

abbrev pub in_front : List ℕ → List (List ℕ) → List (List ℕ)
in_front b [] = []
in_front b (l ∷ ls) = (b ++ l) ∷ ls

pub in_front_lem : (b t : List ℕ) → whole_lines b ≡ [] → whole_lines (b ++ t) ≡ in_front b (whole_lines t)
unfolding whole_lines
in_front_lem [] t h = go (whole_lines t)
  where
    go : (ls : List (List ℕ)) → ls ≡ in_front [] ls
    go [] = refl
    go (l ∷ ls) = refl
in_front_lem (x ∷ b) t h = go (eqb x 10) (whole_lines b) (λ e. in_front_lem b t e) h
  where
    pushed : (ls : List (List ℕ)) → push x (in_front b ls) ≡ in_front (x ∷ b) ls
    pushed [] = refl
    pushed (l ∷ ls) = refl

    go : (q : Bool) (ls : List (List ℕ)) → (ls ≡ [] → whole_lines (b ++ t) ≡ in_front b (whole_lines t)) → cond q ([] ∷ ls) (push x ls) ≡ []
        → cond q ([] ∷ whole_lines (b ++ t)) (push x (whole_lines (b ++ t))) ≡ in_front (x ∷ b) (whole_lines t)
    go true ls r e = absurd (omega (arith, ap (λ (m : List (List ℕ)). length m) e))
    go false [] r e = ap (push x) (r refl) ∙ pushed (whole_lines t)
    go false (l ∷ ls) r e = absurd (omega (arith, ap (λ (m : List (List ℕ)). length m) e))

module _ (b t : List ℕ) (h : whole_lines b ≡ []) where
  -- where the text has no line end either, all is one begun line
  pub begun_one : whole_lines t ≡ [] → begun (b ++ t) ≡ b ++ t
  unfolding begun joined
  begun_one n = ap (λ (ls : List (List ℕ)). drop (length (joined ls)) (b ++ t)) (in_front_lem b t h ∙ ap (in_front b) n)

  pub begun_behind : (l : List ℕ) (ls : List (List ℕ)) → whole_lines t ≡ l ∷ ls → begun (b ++ t) ≡ begun t
  unfolding begun joined
  begun_behind l ls e =
      let n : length (joined ((b ++ l) ∷ ls)) ≡ length b + length (joined (l ∷ ls)) =
      omega (arith, length-append ((b ++ l) ++ (10 ∷ [])) (joined ls), length-append (b ++ l) (10 ∷ []), length-append b l, length-append (l ++ (10 ∷ [])) (joined ls), length-append l (10 ∷ [])) in
      ap (λ (ms : List (List ℕ)). drop (length (joined ms)) (b ++ t)) (in_front_lem b t h ∙ ap (in_front b) e)
      ∙ ap (λ k. drop k (b ++ t)) n ∙ drop-append-add b t (length (joined (l ∷ ls)))
      ∙ ap (λ (ms : List (List ℕ)). drop (length (joined ms)) t) (sym e)

-- less of a begun line has no line end either
pub none_take : (s : List ℕ) (n : ℕ) → whole_lines s ≡ [] → whole_lines (take n s) ≡ []
unfolding whole_lines
none_take [] n h = ap whole_lines (take-nil n)
none_take (b ∷ t) zero h = refl
none_take (b ∷ t) (suc n) h = go (eqb b 10) (whole_lines t) (λ e. none_take t n e) h
  where
    go : (q : Bool) (ls : List (List ℕ)) → (ls ≡ [] → whole_lines (take n t) ≡ []) → cond q ([] ∷ ls) (push b ls) ≡ []
        → cond q ([] ∷ whole_lines (take n t)) (push b (whole_lines (take n t))) ≡ []
    go true ls r e = absurd (omega (arith, ap (λ (m : List (List ℕ)). length m) e))
    go false [] r e = ap (push b) (r refl)
    go false (l ∷ ls) r e = absurd (omega (arith, ap (λ (m : List (List ℕ)). length m) e))
