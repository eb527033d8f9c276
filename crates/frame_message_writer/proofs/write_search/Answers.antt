use borrow.Author.Rules.{rules}
use mathlib.Core.Path.{◌≡◌, sym, ap, ◌∙◌}
use mathlib.Core.Bool.{Bool, true, false, ◌&&◌, and-false}
use Prim.Native.Nat.{ℕ, ◌≤◌}
use native.Mathlib.Omega.{arith}
use mathlib.Core.List.{[], ◌∷◌}
use lib.ListN.{length}
use lib.Seq.{length-take-le}
use lib.Dec.{leb}
use Rattle.octets.specs.Octets.{part}
use Rattle.frame_fields.specs.Conditions.{conditions_in, conditions_width, are_conditions}
use Rattle.frame.specs.Field.{plain_bytes, conditions_bytes, bytes_of, all_bytes}
use Rattle.frame.specs.Frame.{kind_byte, fields_of, kind_of, values_of, frame_of}
use Rattle.frame.proofs.Texts.{conditions_count, conditions_front, conditions_most}
use Rattle.command.specs.View.{to_header}
use Rattle.rules.specs.Command.{Search, is_code, is_few, well_formed}
use Rattle.frame_code_writer.proofs.Fields.{lastly, refused, written, message}
use Rattle.octet_writer.proofs.Laws.{written_same, written_then}
use Rattle.command.proofs.Texts.{search_formed}
use Rattle.frame_message_writer.proofs.write_search.Goals.{Start, In-Some}
use Rattle.frame_message_writer.proofs.write_search.Goals as goal

formed : (s : Start) → well_formed (Search (to_header s.args.h) (conditions_in s.args.conditions.count s.args.conditions.texts))
    ≡ (((is_code s.args.h.sender && leb s.args.h.second 86399) && is_few s.args.conditions.count) && are_conditions s.args.conditions.count s.args.conditions.texts)
formed s = let l : length s.args.conditions.texts ≡ 160 = search rules in search (rules, search_formed)

-- both tests passed
ended : (c : In-Some)
    → (are_conditions c.args.conditions.count c.args.conditions.texts ≡ true) × (c.in-Some.end ≡ conditions_width c.args.conditions.count c.args.conditions.texts)
ended c = grind (arith, c.in-Some.ensures)

short : (c : In-Some) → c.in-Some.end ≤ 96
short c =
    omega (arith, (ended c).1, conditions_most c.args.conditions.count c.args.conditions.texts (ended c).0, (c.is_ranged.ensures.count c.if-not-is_ranged.false))

pub returns-then-not-is_ranged-clause-wrote : goal.returns-then-not-is_ranged-clause-wrote
unfolding is_few
returns-then-not-is_ranged-clause-wrote c =
    refused (Search (to_header c.args.h) (conditions_in c.args.conditions.count c.args.conditions.texts))
    (formed (goal.at.returns-then-not-is_ranged-clause-wrote c).Start ∙ ap (λ (t : Bool). t && are_conditions c.args.conditions.count c.args.conditions.texts) (sym c.is_ranged.ensures.fits ∙ c.if-not-is_ranged.true))

pub returns-in_default-clause-wrote : goal.returns-in_default-clause-wrote
returns-in_default-clause-wrote c =
    let e : are_conditions c.args.conditions.count c.args.conditions.texts ≡ false = grind (arith, c.in_default.ensures) in
    refused (Search (to_header c.args.h) (conditions_in c.args.conditions.count c.args.conditions.texts))
    (formed (goal.at.returns-in_default-clause-wrote c).Start ∙ rw e (and-false ((is_code c.args.h.sender && leb c.args.h.second 86399) && is_few c.args.conditions.count)))

inside : (c : In-Some) → c.in-Some.end ≤ length c.args.conditions.texts
inside c = let l : length c.args.conditions.texts ≡ 160 = search rules in omega (arith, short c, l)

pub shared_ref_as_front-put_all : goal.shared_ref_as_front-put_all
shared_ref_as_front-put_all c = omega (arith, short (goal.at.shared_ref_as_front-put_all c).In-Some)

pub slice_bounds-put_all-end : goal.slice_bounds-put_all-end
slice_bounds-put_all-end c = sym (length-take-le c.in-Some.end c.args.conditions.texts (inside (goal.at.slice_bounds-put_all-end c).In-Some))

pub returns-clause-wrote : goal.returns-clause-wrote
unfolding to_header is_few frame_of kind_of kind_byte fields_of values_of all_bytes bytes_of plain_bytes part
returns-clause-wrote c =
    let s = (goal.at.returns-clause-wrote c).In-Some in
    let cs = conditions_in c.args.conditions.count c.args.conditions.texts in
    let n = conditions_count c.args.conditions.count c.args.conditions.texts in
    let w : conditions_width c.args.conditions.count c.args.conditions.texts ≤ length c.args.conditions.texts = omega (arith, inside s, (ended s).1) in
    let b : part 0 c.in-Some.end c.args.conditions.texts ≡ conditions_bytes cs = ap (λ (k : ℕ). part 0 k c.args.conditions.texts) (ended s).1 ∙ sym (conditions_front c.args.conditions.count c.args.conditions.texts w) in
    written (Search (to_header c.args.h) cs)
    (formed (goal.at.returns-clause-wrote c).Start ∙ rw (sym c.is_ranged.ensures.fits ∙ c.if-not-is_ranged.false, (ended s).0))
    (message 11 _ _ _ c.args.h.id _ c.put_header.ensures.wrote
    (lastly (written_then (written_same (ap (λ (k : ℕ). k ∷ []) (sym n)) c.put.ensures.wrote) (written_same b c.put_all.ensures.wrote))))
