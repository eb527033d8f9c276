-- Rows of a frame by their places. Assumes nothing.
use mathlib.Core.Path.{◌≡◌, refl, sym, ap, ap₂, ◌∙◌}
use mathlib.Core.List.{List, [], ◌∷◌, ◌++◌, map}
use Prim.Native.Nat.{ℕ, zero, suc, ◌+◌, ◌*◌, ◌<◌}
use native.Mathlib.Omega.{arith}
use native.Mathlib.Nat.{suc-mul}
use native.Mathlib.Numerals.{add-one}
use lib.ListN.{length, take, drop, set}
use lib.Seq.{take-take, drop-drop}
use Rattle.std.proofs.lemmas.List.{take_more_set}
use Rattle.octets.specs.Octets.{part}
use Rattle.rules.specs.Command as Rule
use Rattle.frame.specs.Field.{size, row_size, plain_value, row_value, rows_value}
use Rattle.frame.specs.Frame.{item_row, id_row, item_of, id_of}
use Rattle.command.specs.View.{to_item}
use Rattle.command.specs.Item.{item_in, rows_in}

module _ {X : Type 0} (f : List ℕ → X) (size : ℕ) where
  rows_next : (i : ℕ) (bs : List ℕ) → rows_in f size (suc i) bs ≡ rows_in f size i bs ++ (f (part (i * size) size bs) ∷ [])
  unfolding rows_in part
  rows_next zero bs = let e : 0 * size ≡ 0 = omega arith in rw e refl
  rows_next (suc i) bs =
      let e : suc i * size ≡ size + i * size = omega (arith, suc-mul i size) in
      ap (λ (l : List X). f (take size bs) ∷ l)
      (rows_next i (drop size bs) ∙ ap (λ (l : List ℕ). rows_in f size i (drop size bs) ++ (f (take size l) ∷ [])) (drop-drop (i * size) size bs ∙ ap (λ (k : ℕ). drop k bs) (sym e)))

  -- one row more, read at its place
  pub row_more : (b : List ℕ) (rows : List X) (i : ℕ) (x : X) → i < length rows → take i rows ≡ rows_in f size i (drop 48 b) → x ≡ f (part (48 + i * size) size b)
      → take (i + 1) (set rows i x) ≡ rows_in f size (i + 1) (drop 48 b)
  unfolding part
  row_more b rows i x h e v =
      take_more_set rows i x h
      ∙ ap₂ (λ (l : List X) (y : X). l ++ (y ∷ [])) e (v ∙ ap (λ (l : List ℕ). f (take size l)) (sym (drop-drop (i * size) 48 b)))
      ∙ sym (rows_next i (drop 48 b))
      ∙ ap (λ (n : ℕ). rows_in f size n (drop 48 b)) (sym (add-one i))

-- ---- as a frame has them

pub items_value : (n : ℕ) (bs : List ℕ) → map to_item (rows_in item_in 19 n bs) ≡ map item_of (rows_value item_row n bs)
unfolding rows_in item_in to_item item_of rows_value row_size size
items_value zero bs = refl
items_value (suc n) bs = ap (λ (l : List Rule.Item). item_of (row_value item_row (take 19 bs)) ∷ l) (items_value n (drop 19 bs))

pub ids_value : (n : ℕ) (bs : List ℕ) → rows_in (λ (l : List ℕ). l) 10 n bs ≡ map id_of (rows_value id_row n bs)
unfolding rows_in id_of rows_value row_value plain_value row_size size
ids_value zero bs = refl
ids_value (suc n) bs = ap₂ ◌∷◌ (sym (take-take 10 10 bs (omega arith))) (ids_value n (drop 10 bs))
