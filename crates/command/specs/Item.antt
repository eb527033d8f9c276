-- An item of a change as a row of a frame, and rows one behind the other. Assumes nothing.
use Rattle.std.specs.Prelude.{◌≡◌, Bool, true, List, [], ◌∷◌, ℕ, zero, suc, take, drop}
use Rattle.std.proofs.Common.{ap}
use Rattle.frame.specs.Field.{Row, row_fits, row_bytes, row_value}
use Rattle.frame.specs.Frame.{item_row, item_values}
use Rattle.frame.proofs.Rows.{row_back}
use Rattle.command.specs.declared.ChangeItem.{ChangeItem}
use Rattle.command.specs.View.{to_item}

abbrev pub values_of_item : ChangeItem → Row item_row
values_of_item i = item_values (to_item i)

unfoldable pub item_bytes : ChangeItem → List ℕ
item_bytes i = row_bytes item_row (values_of_item i)

unfoldable pub item_fits : ChangeItem → Bool
item_fits i = row_fits item_row (values_of_item i)

abbrev pub item_from : Row item_row → ChangeItem
item_from r = record { account = r.0; kind = r.1.0; value = r.1.1.0 }

unfoldable pub item_in : List ℕ → ChangeItem
item_in bs = item_from (row_value item_row bs)

-- what is written is read back
pub item_back : (i : ChangeItem) → item_fits i ≡ true → item_in (item_bytes i) ≡ i
unfolding item_bytes item_fits item_in item_values to_item
item_back i h = ap item_from (row_back item_row (values_of_item i) h)

-- n rows of so many bytes, each a value
unfoldable pub rows_in : {X : Type 0} → (List ℕ → X) → ℕ → ℕ → List ℕ → List X
rows_in f size zero bs = []
rows_in f size (suc n) bs = f (take size bs) ∷ rows_in f size n (drop size bs)
