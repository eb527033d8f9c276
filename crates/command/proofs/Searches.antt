-- What the frame of a search holds: its header, and the conditions behind the count. Assumes nothing.
use mathlib.Core.Path.{◌≡◌, sym, ap, ap₂, ◌∙◌}
use mathlib.Core.Bool.{Bool, true, ◌&&◌}
use mathlib.Core.List.{List, [], ◌∷◌, ◌++◌}
use Prim.Native.Nat.{ℕ, ◌+◌, ◌-◌, ◌≤◌}
use native.Mathlib.Omega.{arith}
use lib.ListN.{length, get_or, drop, length-drop, take-append-drop}
use lib.Seq.{drop-drop, get_or-drop}
use lib.Dec.{leb, eqb}
use borrow.Author.Tests.{leb-true, eqb-true}
use Rattle.octets.specs.Octets.{part}
use Rattle.octets.proofs.Numbers.{both}
use Rattle.rules.specs.Command as Rule
use Rattle.rules.specs.Command.{is_few}
use Rattle.frame_fields.specs.Place.{six_digits, word_at}
use Rattle.frame_fields.specs.Conditions.{conditions_in, conditions_width, are_conditions}
use Rattle.frame.specs.Field.{size, width, may, plain_value, value_of, are_fields, all_values}
use Rattle.frame.specs.Frame.{K0b, kind_byte, fields_of, is_frame, command_of, commands_of}
use Rattle.frame.proofs.Texts.{conditions_append, conditions_most}
use Rattle.command.specs.declared.Header.{Header}
use Rattle.command.specs.declared.Conditions.{Conditions}
use Rattle.command.specs.declared.Command.TheVariants.{Search}
use Rattle.command.specs.View.{to_command}
use Rattle.command.proofs.ByKind.{kind_fields, kind_command}
use Rattle.command.proofs.Messages.{HeaderAt, rows_whole}

-- so many conditions behind the count at 47, and nothing behind them
pub record SearchAt (b : List ℕ) : Type 0 where
  pub most : get_or b 47 0 ≤ 8
  pub formed : are_conditions (get_or b 47 0) (drop 48 b) ≡ true
  pub whole : length b ≡ 48 + conditions_width (get_or b 47 0) (drop 48 b)
  pub short : length b ≤ 144

search_range : (b : List ℕ) (p q : Bool)
    → (p && (q && ((is_few (get_or b 47 0) && are_conditions (get_or b 47 0) (drop 48 b)) && eqb (length b) (47 + (1 + conditions_width (get_or b 47 0) (drop 48 b)))))) ≡ true → SearchAt b
unfolding is_few
search_range b p q h =
    let n = get_or b 47 0 in
    let w = conditions_width n (drop 48 b) in
    let t = (is_few n && are_conditions n (drop 48 b)) && eqb (length b) (47 + (1 + w)) in
    let r = both (is_few n && are_conditions n (drop 48 b)) (eqb (length b) (47 + (1 + w))) (both q t (both p (q && t) h).1).1 in
    let s = both (is_few n) (are_conditions n (drop 48 b)) r.0 in
    let few = leb-true n 8 (both (leb 1 n) (leb n 8) s.0).1 in
    let e = eqb-true (length b) (47 + (1 + w)) r.1 in
    record {
      most = few;
      formed = s.1;
      whole = omega (arith, e);
      short = omega (arith, e, few, conditions_most n (drop 48 b) s.1);
    }

module _ (b : List ℕ) (good : is_frame b ≡ true) (e : get_or b 0 0 ≡ 11) where
  pub search_at : SearchAt b
  unfolding kind_byte fields_of are_fields may width size
  search_at = search_range b (six_digits b 1) (leb (word_at b 43) 86399) (kind_fields K0b b good e)

  -- the conditions in an array that begins with their bytes
  pub kept : (a : List ℕ) → part 0 (length b - 48) a ≡ drop 48 b → conditions_in (get_or b 47 0) a ≡ conditions_in (get_or b 47 0) (drop 48 b)
  unfolding part
  kept a f =
      let n = get_or b 47 0 in
      let m = length b - 48 in
      ap (conditions_in n) (sym (take-append-drop m a) ∙ ap (λ (l : List ℕ). l ++ drop m a) f)
      ∙ conditions_append n (drop 48 b) (drop m a) (omega (arith, search_at.whole, length-drop 48 b))

  held : (w : ℕ) → length b ≡ 48 + w → conditions_in (get_or (part 47 (1 + w) b) 0 0) (drop 1 (part 47 (1 + w) b)) ≡ conditions_in (get_or b 47 0) (drop 48 b)
  held w h =
      let p = rows_whole b w h in
      ap₂ conditions_in (ap (λ (l : List ℕ). get_or l 0 0) p ∙ get_or-drop 47 b 0 0) (ap (drop 1) p ∙ drop-drop 1 47 b)

  pub search_held : (h : Header) → HeaderAt b h → (cs : Conditions) → cs.count ≡ get_or b 47 0 → part 0 (length b - 48) cs.texts ≡ drop 48 b
      → to_command (Search h cs) ∷ [] ≡ commands_of b
  unfolding to_command kind_byte fields_of command_of all_values value_of plain_value width size
  search_held h head cs c f =
      ap (λ (k : Rule.Command). k ∷ [])
      (ap₂ Rule.Search head (ap (λ (k : ℕ). conditions_in k cs.texts) c ∙ kept cs.texts f ∙ sym (held (conditions_width (get_or b 47 0) (drop 48 b)) search_at.whole)))
      ∙ sym (kind_command K0b b good e)
