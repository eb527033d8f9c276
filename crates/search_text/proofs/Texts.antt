-- Laws of a text in an id, compared character by character from a place on. Assumes nothing.
use mathlib.Core.Path.{◌≡◌, ap, ◌∙◌}
use mathlib.Core.Bool.{Bool, true, false, ◌&&◌, ◌||◌}
use mathlib.Core.List.{List, ◌∷◌}
use Prim.Native.Nat.{ℕ, ◌+◌, ◌≤◌, ◌<◌}
use native.Mathlib.Numerals.{add-one}
use lib.ListN.{length, drop, get_or, drop_of_length-le}
use lib.Seq.{drop-cons}
use lib.Dec.{eqb}
use borrow.Author.Tests.{eq-eqb, ne_eqb}
use Rattle.rules.specs.Search.{begins, contains}

-- ---- the inner comparison: the text from its k-th character on, the id from the place j on

module _ (text id : List ℕ) (k j : ℕ) where
  -- every character was met
  pub begins_end : length text ≤ k → begins (drop k text) (drop j id) ≡ true
  unfolding begins
  begins_end h = rw (drop_of_length-le text h)

  begins_next : k < length text → j < length id → begins (drop k text) (drop j id) ≡ (eqb (get_or text k 0) (get_or id j 0) && begins (drop (k + 1) text) (drop (j + 1) id))
  unfolding begins
  begins_next h g = rw (drop-cons text k 0 h, drop-cons id j 0 g, add-one k, add-one j)

  pub begins_same : k < length text → j < length id → get_or text k 0 ≡ get_or id j 0 → begins (drop k text) (drop j id) ≡ begins (drop (k + 1) text) (drop (j + 1) id)
  begins_same h g e = begins_next h g ∙ ap (λ (b : Bool). b && begins (drop (k + 1) text) (drop (j + 1) id)) (eq-eqb _ _ e)

  pub begins_other : k < length text → j < length id → (get_or text k 0 ≡ get_or id j 0 → ⊥) → begins (drop k text) (drop j id) ≡ false
  begins_other h g e = begins_next h g ∙ ap (λ (b : Bool). b && begins (drop (k + 1) text) (drop (j + 1) id)) (ne_eqb _ _ e)

-- ---- the outer comparison

pub contains_past : (text id : List ℕ) (i : ℕ) → i < length id → begins text (drop i id) ≡ false → contains text (drop i id) ≡ contains text (drop (i + 1) id)
unfolding contains
contains_past text id i h e =
    let d : drop i id ≡ get_or id i 0 ∷ drop (i + 1) id = rw (add-one i) (drop-cons id i 0 h) in
    ap (contains text) d ∙ ap (λ (b : Bool). b || contains text (drop (i + 1) id)) (rw d at e)
