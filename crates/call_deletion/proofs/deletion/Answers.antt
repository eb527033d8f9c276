-- The checks of a deletion: those of the header, then those of its limit; and what it does. Assumes nothing.
use Rattle.std.proofs.Common.{rules, arith, ◌≡◌, refl, sym, ap, ◌∙◌, ◌&&◌, ℕ, [], ◌∷◌, length, drop, None}
use lib.Dec.{leb}
use Rattle.octets.specs.Octets.{part}
use lib.Seq.{take_all}
use Rattle.rules.specs.Account.{adjust}
use Rattle.rules.specs.Command.{Header, Command, Deletion, is_code, well_formed}
use Rattle.rules.specs.Machine.{Machine, checks, effect, first_failure}
use Rattle.rules.specs.Message.{named, limit_checks, touch, cleared}
use Rattle.command.specs.View.{to_header}
use Rattle.command.proofs.Forms.{deletion_formed}
use Rattle.table.specs.Inside.{table_of}
use Rattle.table.specs.View.{accounts_of}
use Rattle.ledger.specs.View.{ledger_view, view_of}
use Rattle.message_item_checks.proofs.Laws.{deletion_item}
use Rattle.message_checks.specs.Parts.{header_checks, named_checks}
use Rattle.message_checks.proofs.Calls.{Takes, refused_first, refused_later, taken}
use Rattle.call_deletion.proofs.deletion.Goals.{Start, After-set_items}
use Rattle.call_deletion.proofs.deletion.Goals as goal

abbrev of : Start → Header
of s = to_header s.args.header

abbrev asked : Start → Command
asked s = Deletion (of s) s.args.account s.args.kind

formed : (s : Start) → (is_code s.args.header.sender && leb s.args.header.second 86399) ≡ well_formed (asked s)
formed s = sym (search (rules, deletion_formed))

-- the account id's ten bytes
code_is : (s : Start) → named (part 0 10 s.args.account) ≡ named s.args.account
unfolding part
code_is s = let long : length s.args.account ≡ 10 = search rules in ap named (take_all 10 s.args.account (omega arith))

-- the checks of the one limit that it names
rest : (s : Start) (m : Machine) (code : ℕ) → code ≡ named s.args.account
    → first_failure (named_checks s.args.header (record { code = code; kind = s.args.kind; value = None } ∷ []) m) ≡ first_failure (drop 6 (checks m 0 (asked s)))
unfolding named_checks
rest s m code e =
    ap (λ c. first_failure (named_checks s.args.header (record { code = c; kind = s.args.kind; value = None } ∷ []) m)) e
    ∙ deletion_item m s.args.header s.args.account s.args.kind

pub returns-in_err-check_header : goal.returns-in_err-check_header
unfolding checks header_checks ledger_view view_of
returns-in_err-check_header c =
    let s = (goal.at.returns-in_err-check_header c).Start in
    refused_first (asked s) c.args.l.now 6 _ c.in_err-check_header.field-0.0 (search rules)
    (rw (c.is_header.ensures, formed s) at c.in_err-check_header.ensures.says)

pub returns-in_err-check_named : goal.returns-in_err-check_named
unfolding checks limit_checks header_checks named_checks ledger_view view_of
returns-in_err-check_named c =
    let s = (goal.at.returns-in_err-check_named c).Start in
    refused_later (asked s) c.args.l.now 6 tt (rw (c.is_header.ensures, formed s) at c.in_ok-check_header.ensures.says)
    _ c.in_err-check_named.field-0.0 (search rules) (c.in_err-check_named.ensures.says ∙ rest s _ _ (c.named.ensures ∙ code_is s))

deleted : (c : After-set_items) → let t = c.t.inside in
    Takes (asked (goal.at.returns c).Start) c.args.l.now (record { codes = t.codes; accounts = c.set_items.new.accounts; count = t.count; day = t.day }) c.add.new.self
unfolding checks limit_checks header_checks named_checks ledger_view view_of effect to_header accounts_of
deleted c =
    let s = (goal.at.returns c).Start in
    let set = c.set_items.ensures in
    let code = c.named.ensures ∙ code_is s in
    taken (asked s) c.args.l.now 6 tt (rw (c.is_header.ensures, formed s) at c.in_ok-check_header.ensures.says)
    c.l.view_is c.l.invariant c.t.view_is (c.in_ok-check_named.ensures.says ∙ rest s _ _ code) c.in_ok-check_named.ensures.room
    (adjust (named s.args.account) (touch (of s) s.args.kind cleared)) _ (of s) _ set.listed.own set.listed.long set.rest
    (set.accounts ∙ ap (λ (n : ℕ). adjust n (touch (of s) s.args.kind cleared) (accounts_of (table_of c.t.inside))) code)
    (rw c.today.ensures at c.add.ensures.ids) c.add.ensures.used refl

pub invariant_of-t : goal.invariant_of-t
invariant_of-t c = (deleted (goal.at.invariant_of-t c).After-set_items).0

pub invariant_of-l : goal.invariant_of-l
invariant_of-l c = (deleted (goal.at.invariant_of-l c).After-set_items).1

pub returns : goal.returns
returns c = (deleted (goal.at.returns c).After-set_items).2
