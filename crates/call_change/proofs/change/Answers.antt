-- The checks of a change: those of the header, then those of its items; and what it does. Assumes nothing.
use Rattle.std.proofs.Common.{rules, arith, ◌≡◌, refl, sym, ap, ◌∙◌, ◌&&◌, List, length, ◌≤◌, take, drop, map}
use lib.Dec.{leb}
use Rattle.rules.specs.Command.{Header, Item, Command, Change, is_code, is_count, well_formed}
use Rattle.rules.specs.Machine.{Machine, checks, effect, first_failure}
use Rattle.rules.specs.Message.{limit_checks, set_items}
use Rattle.command.specs.View.{to_header, to_item, items_from}
use Rattle.command.proofs.Forms.{change_formed, count_most, items_taken}
use Rattle.table.specs.Inside.{table_of}
use Rattle.table.specs.View.{accounts_of}
use Rattle.ledger.specs.View.{ledger_view, view_of}
use Rattle.message_items.specs.Records.{record_of}
use Rattle.message_items.specs.declared.Item as Listed
use Rattle.message_item_checks.proofs.Laws.{change_items}
use Rattle.message_checks.specs.Parts.{header_checks, named_checks}
use Rattle.message_checks.proofs.Calls.{Takes, refused_first, refused_later, taken}
use Rattle.message_limits.specs.Setting.{set_records}
use Rattle.call_change.proofs.Setting.{records_set}
use Rattle.call_change.proofs.change.Goals.{Start, After-set_items}
use Rattle.call_change.proofs.change.Goals as goal

abbrev of : Start → Header
of s = to_header s.args.header

abbrev items : Start → List Item
items s = items_from 0 s.args.items.count s.args.items.rows

abbrev asked : Start → Command
asked s = Change (of s) (items s)

long : (s : Start) → length s.args.items.rows ≡ 16
long s = search rules

formed : (s : Start) → ((is_code s.args.header.sender && leb s.args.header.second 86399) && is_count s.args.items.count) ≡ well_formed (asked s)
formed s = let l = long s in sym (search (rules, change_formed))

-- the checks of the records, which are the items
rest : (s : Start) (m : Machine) {l : List Listed.Item} → l ≡ map record_of (items s) → first_failure (named_checks s.args.header l m) ≡ first_failure (drop 6 (checks m 0 (asked s)))
unfolding named_checks
rest s m e = ap (λ (l : List Listed.Item). first_failure (named_checks s.args.header l m)) e ∙ ap first_failure (change_items m s.args.header (items s))

pub returns-in_err-check_header : goal.returns-in_err-check_header
unfolding is_count checks header_checks ledger_view view_of
returns-in_err-check_header c =
    let s = (goal.at.returns-in_err-check_header c).Start in
    refused_first (asked s) c.args.l.now 6 _ c.in_err-check_header.field-0.0 (search rules)
    (rw (c.is_header.ensures, c.is_count.ensures, formed s) at c.in_err-check_header.ensures.says)

-- the items, once their count has passed
records_are : (s : Start) {l : List Listed.Item} → s.args.items.count ≤ 16 → l ≡ map record_of (map to_item (take s.args.items.count s.args.items.rows)) → l ≡ map record_of (items s)
records_are s m e = e ∙ ap (map record_of) (sym (items_taken s.args.items.count s.args.items.rows (omega (arith, m, long s))))

pub returns-in_err-check_named : goal.returns-in_err-check_named
unfolding is_count checks limit_checks header_checks named_checks ledger_view view_of
returns-in_err-check_named c =
    let s = (goal.at.returns-in_err-check_named c).Start in
    let m = count_most c.args.header c.args.items.count (rw (c.is_header.ensures, c.is_count.ensures) at c.in_ok-check_header.ensures.formed) in
    refused_later (asked s) c.args.l.now 6 tt (rw (c.is_header.ensures, c.is_count.ensures, formed s) at c.in_ok-check_header.ensures.says)
    _ c.in_err-check_named.field-0.0 (search rules) (c.in_err-check_named.ensures.says ∙ rest s _ (records_are s m (c.deref.ensures.0 ∙ c.records-items.ensures)))

changed : (c : After-set_items) → let t = c.t.inside in
    Takes (asked (goal.at.returns c).Start) c.args.l.now (record { codes = t.codes; accounts = c.set_items.new.accounts; count = t.count; day = t.day }) c.add.new.self
unfolding is_count checks limit_checks header_checks named_checks ledger_view view_of effect to_header accounts_of
changed c =
    let s = (goal.at.returns c).Start in
    let set = c.set_items.ensures in
    let m = count_most c.args.header c.args.items.count (rw (c.is_header.ensures, c.is_count.ensures) at c.in_ok-check_header.ensures.formed) in
    let are = records_are s m (c.deref.ensures.0 ∙ c.records-items.ensures) in
    taken (asked s) c.args.l.now 6 tt (rw (c.is_header.ensures, c.is_count.ensures, formed s) at c.in_ok-check_header.ensures.says)
    c.l.view_is c.l.invariant c.t.view_is (c.in_ok-check_named.ensures.says ∙ rest s _ are) c.in_ok-check_named.ensures.room
    (set_items (of s) (items s)) _ (of s) _ set.listed.own set.listed.long set.rest
    (set.accounts ∙ ap (λ (is : List Listed.Item). set_records (of s) is (accounts_of (table_of c.t.inside))) (records_are s m (c.deref-2.ensures.0 ∙ c.records-items.ensures)) ∙ records_set (of s) (items s) _)
    (rw c.today.ensures at c.add.ensures.ids) c.add.ensures.used refl

pub invariant_of-t : goal.invariant_of-t
invariant_of-t c = (changed (goal.at.invariant_of-t c).After-set_items).0

pub invariant_of-l : goal.invariant_of-l
invariant_of-l c = (changed (goal.at.invariant_of-l c).After-set_items).1

pub returns : goal.returns
returns c = (changed (goal.at.returns c).After-set_items).2
