-- What the frame of a limit message holds: its header, and its items or ids behind the count. Assumes nothing.
use mathlib.Core.Path.{◌≡◌, sym, ap, ap₂, ◌∙◌}
use mathlib.Core.Bool.{Bool, true, ◌&&◌}
use mathlib.Core.List.{List, [], ◌∷◌, map}
use Prim.Native.Nat.{ℕ, ◌+◌, ◌*◌, ◌≤◌}
use native.Mathlib.Omega.{arith}
use lib.ListN.{length, get_or, take, drop, length-drop}
use lib.Seq.{take_all, drop-drop, get_or-drop}
use lib.Dec.{leb, eqb}
use borrow.Author.Tests.{leb-true, eqb-true}
use Rattle.octets.specs.Octets.{number, part}
use Rattle.octets.proofs.Numbers.{both}
use Rattle.octets.proofs.Places.{number_one}
use Rattle.rules.specs.Command as Rule
use Rattle.rules.specs.Command.{is_count}
use Rattle.rules.specs.Message.{decimal}
use Rattle.frame_fields.specs.Place.{six_digits, word_at}
use Rattle.frame.specs.Field.{Plain, size, row_size, width, may, plain_value, rows_value, value_of, are_fields, all_values}
use Rattle.frame.specs.Frame.{K07, K08, K09, kind_byte, item_row, id_row, fields_of, is_frame, header_of, item_of, id_of, command_of, commands_of}
use Rattle.command.specs.declared.Header.{Header}
use Rattle.command.specs.declared.Command.TheVariants.{Change, Deletion, Query}
use Rattle.command.specs.declared.ChangeItem.{ChangeItem}
use Rattle.command.specs.declared.Rows.{Rows}
use Rattle.command.specs.Item.{item_in, rows_in}
use Rattle.command.specs.View.{to_header, to_item, to_command}
use Rattle.command.proofs.Forms.{items_taken, ids_taken}
use Rattle.command.proofs.Placed.{items_value, ids_value}
use Rattle.command.proofs.ByKind.{end, kind_fields, kind_length, kind_command}

-- ---- the header

abbrev pub HeaderAt : List ℕ → Header → Type 0
HeaderAt b h = to_header h ≡ header_of (decimal 0 (part 1 6 b)) (part 7 32 b) (number (part 39 4 b)) (number (part 43 4 b))

-- ---- a count, and so many rows up to the end

pub rows_whole : (b : List ℕ) (w : ℕ) → length b ≡ 48 + w → part 47 (1 + w) b ≡ drop 47 b
unfolding part
rows_whole b w e = take_all (1 + w) (drop 47 b) (simp length-drop (omega arith))

rows_held : (ps : List Plain) (b : List ℕ) (w : ℕ) → length b ≡ 48 + w
    → rows_value ps (get_or (part 47 (1 + w) b) 0 0) (drop 1 (part 47 (1 + w) b)) ≡ rows_value ps (get_or b 47 0) (drop 48 b)
rows_held ps b w e =
    let p = rows_whole b w e in
    ap₂ (rows_value ps) (ap (λ (l : List ℕ). get_or l 0 0) p ∙ get_or-drop 47 b 0 0) (ap (drop 1) p ∙ drop-drop 1 47 b)

pub record RowsAt (b : List ℕ) (row : ℕ) : Type 0 where
  pub most : get_or b 47 0 ≤ 16
  pub whole : length b ≡ 48 + get_or b 47 0 * row

rows_range : (b : List ℕ) (row : ℕ) (p q : Bool) → (p && (q && (is_count (get_or b 47 0) && eqb (length b) (47 + (1 + get_or b 47 0 * row))))) ≡ true → RowsAt b row
unfolding is_count
rows_range b row p q h =
    let n = get_or b 47 0 in
    let r = (both q (is_count n && eqb (length b) (47 + (1 + n * row))) (both p (q && (is_count n && eqb (length b) (47 + (1 + n * row)))) h).1).1 in
    let s = both (is_count n) (eqb (length b) (47 + (1 + n * row))) r in
    record {
      most = leb-true n 16 (both (leb 1 n) (leb n 16) s.0).1;
      whole = omega (arith, eqb-true (length b) (47 + (1 + n * row)) s.1);
    }

-- ---- the messages

module _ (b : List ℕ) (good : is_frame b ≡ true) where
  pub change_rows : get_or b 0 0 ≡ 7 → RowsAt b 19
  unfolding kind_byte fields_of are_fields may width size row_size
  change_rows e = rows_range b 19 (six_digits b 1) (leb (word_at b 43) 86399) (kind_fields K07 b good e)

  pub query_rows : get_or b 0 0 ≡ 9 → RowsAt b 10
  unfolding kind_byte fields_of are_fields may width size row_size
  query_rows e = rows_range b 10 (six_digits b 1) (leb (word_at b 43) 86399) (kind_fields K09 b good e)

  pub deletion_length : get_or b 0 0 ≡ 8 → length b ≡ 58
  unfolding kind_byte fields_of end width size
  deletion_length e = kind_length K08 b good e

  module _ (h : Header) (head : HeaderAt b h) where
    pub deletion_held : (id : List ℕ) (u : ℕ) → get_or b 0 0 ≡ 8 → id ≡ part 47 10 b → u ≡ get_or b 57 0 → to_command (Deletion h id u) ∷ [] ≡ commands_of b
    unfolding to_command kind_byte fields_of command_of all_values value_of plain_value width size
    deletion_held id u e f g =
        let n = g ∙ sym (number_one 57 b (omega (arith, deletion_length e))) in
        ap (λ (c : Rule.Command). c ∷ []) (λ j. Rule.Deletion (head j) (f j) (n j)) ∙ sym (kind_command K08 b good e)

    pub change_held : (items : Rows ChangeItem) → get_or b 0 0 ≡ 7 → length items.rows ≡ 16 → items.count ≡ get_or b 47 0
        → take items.count items.rows ≡ rows_in item_in 19 items.count (drop 48 b) → to_command (Change h items) ∷ [] ≡ commands_of b
    unfolding to_command kind_byte fields_of command_of all_values value_of plain_value width size row_size
    change_held items e l f g =
        let at = change_rows e in
        let s = items_taken items.count items.rows (omega (arith, at.most)) ∙ ap (map to_item) g ∙ items_value items.count (drop 48 b) in
        let rows = ap (λ (k : ℕ). map item_of (rows_value item_row k (drop 48 b))) f ∙ ap (map item_of) (sym (rows_held item_row b (get_or b 47 0 * 19) at.whole)) in
        ap (λ (c : Rule.Command). c ∷ []) (ap₂ Rule.Change head (s ∙ rows)) ∙ sym (kind_command K07 b good e)

    pub query_held : (ids : Rows (List ℕ)) → get_or b 0 0 ≡ 9 → length ids.rows ≡ 16 → ids.count ≡ get_or b 47 0
        → take ids.count ids.rows ≡ rows_in (λ (l : List ℕ). l) 10 ids.count (drop 48 b) → to_command (Query h ids) ∷ [] ≡ commands_of b
    unfolding to_command kind_byte fields_of command_of all_values value_of plain_value width size row_size
    query_held ids e l f g =
        let at = query_rows e in
        let s = ids_taken ids.count ids.rows (omega (arith, at.most)) ∙ g ∙ ids_value ids.count (drop 48 b) in
        let rows = ap (λ (k : ℕ). map id_of (rows_value id_row k (drop 48 b))) f ∙ ap (map id_of) (sym (rows_held id_row b (get_or b 47 0 * 10) at.whole)) in
        ap (λ (c : Rule.Command). c ∷ []) (ap₂ Rule.Query head (s ∙ rows)) ∙ sym (kind_command K09 b good e)
