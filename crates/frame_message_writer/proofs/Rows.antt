-- The rows of a message, one behind the other, and as a frame has them. Assumes nothing.
use mathlib.Core.Path.{◌≡◌, refl, sym, ap, ap₂, ◌∙◌}
use mathlib.Core.Bool.{Bool, true, false, cond}
use mathlib.Core.List.{List, [], ◌∷◌, ◌++◌, map, append-nil}
use Prim.Native.Nat.{ℕ, ◌+◌, ◌<◌, ◌≤◌}
use native.Mathlib.Omega.{arith}
use lib.ListN.{length, get_or, take, length-map}
use Rattle.std.specs.Prelude.{flat_map}
use Rattle.std.proofs.lemmas.List.{take_more}
use Rattle.std.proofs.lemmas.List.Concat.{flat_map-append}
use Rattle.octets.specs.Octets.{big_endian}
use Rattle.rules.specs.Command.{Command, Item, Change, Query, well_formed}
use Rattle.rules.specs.Message.{digits}
use Rattle.frame.specs.Field.{plain_bytes, row_bytes, rows_bytes, bytes_of, all_bytes}
use Rattle.frame.specs.Frame.{item_row, id_row, item_values, id_values, kind_byte, fields_of, kind_of, values_of, frame_of, command_frame}
use Rattle.command.specs.declared.Header.{Header}
use Rattle.command.specs.declared.ChangeItem.{ChangeItem}
use Rattle.command.specs.Item.{item_bytes}
use Rattle.command.specs.View.{to_header, to_item, items_from, ids_from}
use Rattle.command.proofs.Forms.{items_length, items_taken, ids_length, ids_taken}
use Rattle.octet_writer.specs.Written.{Written}
use Rattle.octet_writer.proofs.Laws.{written_same, written_then}

-- one row more
pub row_written : {X : Type 0} {l m r : List ℕ} {p at end : ℕ} (f : X → List ℕ) (xs : List X) (i : ℕ) (x : X) → i < length xs → x ≡ get_or xs i x
    → Written l p (flat_map f (take i xs)) m at → Written m at (f x) r end → Written l p (flat_map f (take (i + 1) xs)) r end
row_written f xs i x h e w v =
    let t = ap (flat_map f) (take_more xs i x h) ∙ flat_map-append f (take i xs) (get_or xs i x ∷ []) ∙ ap (λ (b : List ℕ). flat_map f (take i xs) ++ b) (append-nil (f (get_or xs i x))) in
    written_same (sym t) (written_then w (written_same (ap f e) v))

-- ---- as a frame has them

pub items_rows : (items : List ChangeItem) → flat_map item_bytes items ≡ rows_bytes item_row (map item_values (map to_item items))
unfolding item_bytes rows_bytes
items_rows [] = refl
items_rows (i ∷ items) = ap (λ b. row_bytes item_row (item_values (to_item i)) ++ b) (items_rows items)

pub ids_rows : (ids : List (List ℕ)) → flat_map (λ x. x) ids ≡ rows_bytes id_row (map id_values ids)
unfolding rows_bytes row_bytes plain_bytes id_values
ids_rows [] = refl
ids_rows (i ∷ ids) = ap₂ ◌++◌ (sym (append-nil i)) (ids_rows ids)

-- ---- the frame of a message with rows, or nothing of one that is out of range

pub row_frame : (c : Command) (t : Bool) (bs : List ℕ) → well_formed c ≡ t → (t ≡ true → bs ≡ frame_of c) → cond t bs [] ≡ command_frame (c ∷ [])
unfolding command_frame
row_frame c t bs e f = go t f ∙ ap (λ (b : Bool). cond b (frame_of c) []) (sym e)
  where
    go : (t : Bool) → (t ≡ true → bs ≡ frame_of c) → cond t bs [] ≡ cond t (frame_of c) []
    go true f = f refl
    go false f = refl

module _ (h : Header) (n : ℕ) (m : n ≤ 16) where
  pub change_frame : (items : List ChangeItem) → length items ≡ 16
      → 7 ∷ (digits 6 h.sender ++ (h.id ++ (big_endian 4 h.day ++ (big_endian 4 h.second ++ (n ∷ flat_map item_bytes (take n items)))))) ≡ frame_of (Change (to_header h) (items_from 0 n items))
  unfolding to_header frame_of kind_of kind_byte fields_of values_of all_bytes bytes_of plain_bytes
  change_frame items l =
      let is = items_from 0 n items in
      let k : n ≡ length (map item_values is) = sym (length-map is item_values ∙ items_length items 0 n) in
      let r = items_rows (take n items) ∙ ap (λ (i : List Item). rows_bytes item_row (map item_values i)) (sym (items_taken n items (omega arith))) in
      ap (λ (t : List ℕ). 7 ∷ (digits 6 h.sender ++ (h.id ++ (big_endian 4 h.day ++ (big_endian 4 h.second ++ t))))) (ap₂ ◌∷◌ k r ∙ sym (append-nil _))

  pub query_frame : (ids : List (List ℕ)) → length ids ≡ 16
      → 9 ∷ (digits 6 h.sender ++ (h.id ++ (big_endian 4 h.day ++ (big_endian 4 h.second ++ (n ∷ flat_map (λ x. x) (take n ids)))))) ≡ frame_of (Query (to_header h) (ids_from 0 n ids))
  unfolding to_header frame_of kind_of kind_byte fields_of values_of all_bytes bytes_of plain_bytes
  query_frame ids l =
      let is = ids_from 0 n ids in
      let k : n ≡ length (map id_values is) = sym (length-map is id_values ∙ ids_length ids 0 n) in
      let r = ids_rows (take n ids) ∙ ap (λ (i : List (List ℕ)). rows_bytes id_row (map id_values i)) (sym (ids_taken n ids (omega arith))) in
      ap (λ (t : List ℕ). 9 ∷ (digits 6 h.sender ++ (h.id ++ (big_endian 4 h.day ++ (big_endian 4 h.second ++ t))))) (ap₂ ◌∷◌ k r ∙ sym (append-nil _))
