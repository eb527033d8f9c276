-- The checks of a query. Assumes nothing.
use Rattle.std.proofs.Common.{rules, ◌≡◌, ◌≤◌, List, ℕ, length, take, arith, sym, ap, ◌∙◌, Bool}
use Rattle.std.specs.Prelude.{◌&&◌, true, leb}
use borrow.Author.Tests.{leb-true, leb-false, not-true}
use Rattle.octets.proofs.Numbers.{both}
use Rattle.rules.specs.Account.{known}
use Rattle.rules.specs.Command.{Query, every, some?, is_code, is_count, well_formed}
use Rattle.rules.specs.Machine.{inquiry_checks, checks, answer, first_failure}
use Rattle.rules.specs.Message.{named}
use Rattle.rules.proofs.Checks.{early, late}
use Rattle.refusal.proofs.Numbers.{no_zero}
use Rattle.command.specs.View.{to_header, ids_from}
use Rattle.command.proofs.Forms.{query_formed, count_most, ids_formed, ids_taken}
use Rattle.call_query.proofs.Ids.{some_known}
use Rattle.std.specs.List.{list_any}
use Rattle.octets.specs.Octets.{part, is_bytes}
use Rattle.table.specs.View.{accounts_of}
use Rattle.book.specs.Entries.{book_of}
use Rattle.ledger.specs.Inside.{ledger_of}
use Rattle.ledger.specs.View.{view_of, ledger_view, lent}
use Rattle.ledger.proofs.Laws.{not_full}
use Rattle.call_query.proofs.query_checks.Goals.{After-header_checks}
use Rattle.call_query.proofs.query_checks.Goals as goal

-- the checks, as the code makes them
abbrev all : After-header_checks → List (ℕ × Bool)
all s =
    inquiry_checks (ledger_view s.args.l.now) (to_header s.args.header) ((s.is_header.result && s.is_count.result) && leb 913 s.args.room) (some? (λ i. known (named i) (accounts_of s.args.l.now.table)) (ids_from 0 s.args.ids.count s.args.ids.rows))

right : (s : After-header_checks) → first_failure (all s) ≡ answer (ledger_view s.args.l.now) (lent s.args.room (Query (to_header s.args.header) (ids_from 0 s.args.ids.count s.args.ids.rows)))
unfolding is_count answer checks ledger_view view_of
right s =
    let long : length s.args.ids.rows ≡ 16 = search rules in
    let formed : well_formed (Query (to_header s.args.header) (ids_from 0 s.args.ids.count s.args.ids.rows))
    ≡ ((is_code s.args.header.sender && leb s.args.header.second 86399) && is_count s.args.ids.count) = search (rules, query_formed) in
    rw (s.is_header.ensures, s.is_count.ensures, formed)

-- the form of a query that has passed the header's checks
fits : (s : After-header_checks) → ((s.is_header.result && s.is_count.result) && leb 913 s.args.room) ≡ true → (913 ≤ s.args.room) × (s.args.ids.count ≤ 16)
unfolding is_count
fits s e = let f = rw (s.is_header.ensures, s.is_count.ensures) at e in (leb-true 913 s.args.room (both _ _ f).1, count_most s.args.header s.args.ids.count (both _ _ f).0)

-- some of the first n account ids is known
found : (s : After-header_checks) → s.args.ids.count ≤ 16 → some? (λ i. known (named i) (accounts_of s.args.l.now.table)) (ids_from 0 s.args.ids.count s.args.ids.rows)
    ≡ list_any (λ i. known (named (part 0 10 i)) (accounts_of s.args.l.now.table)) (take s.args.ids.count s.args.ids.rows)
found s m =
    let long : length s.args.ids.rows ≡ 16 = search rules in
    let t = ids_taken s.args.ids.count s.args.ids.rows (omega arith) in
    let f : every (is_bytes 10) (ids_from 0 s.args.ids.count s.args.ids.rows) ≡ true = search (rules, ids_formed) in
    ap (some? (λ i. known (named i) (accounts_of s.args.l.now.table))) t
    ∙ sym (some_known (accounts_of s.args.l.now.table) (take s.args.ids.count s.args.ids.rows) (sym (ap (every (is_bytes 10)) t) ∙ f))

pub returns-in_err-header_checks-clause-says : goal.returns-in_err-header_checks-clause-says
unfolding ledger_view view_of to_header book_of
returns-in_err-header_checks-clause-says c =
    let s = (goal.at.returns-in_err-header_checks-clause-says c).After-header_checks in
    (grind arith) ∙ early 5 (all s) _ c.in_err-header_checks.ensures.says (no_zero c.in_err-header_checks.field-0.0) ∙ right s

pub shared_ref_as_front-any_known : goal.shared_ref_as_front-any_known
shared_ref_as_front-any_known c =
    (fits (goal.at.shared_ref_as_front-any_known c).After-header_checks c.in_ok-header_checks.ensures.formed).1

pub returns-in_err-check-clause-says : goal.returns-in_err-check-clause-says
unfolding first_failure ledger_view view_of to_header book_of
returns-in_err-check-clause-says c =
    let s = (goal.at.returns-in_err-check-clause-says c).After-header_checks in
    let t = late 5 (all s) tt (sym c.in_ok-header_checks.ensures.says) ∙ right s in
    let f = found s (fits s c.in_ok-header_checks.ensures.formed).1 in
    rw (← c.l.view_is) ((grind arith) ∙ rw (f, ← c.l.view_is, ← c.any_known.ensures, c.in_err-check.ensures.0) at t)

pub returns-clause-says : goal.returns-clause-says
unfolding first_failure ledger_view view_of to_header book_of
returns-clause-says c =
    let s = (goal.at.returns-clause-says c).After-header_checks in
    let t = late 5 (all s) tt (sym c.in_ok-header_checks.ensures.says) ∙ right s in
    let f = found s (fits s c.in_ok-header_checks.ensures.formed).1 in
    rw (← c.l.view_is) ((grind arith) ∙ rw (f, ← c.l.view_is, ← c.any_known.ensures, c.in_ok-check.ensures, ← not_full (ledger_of c.l.inside)) at t)

pub returns-clause-ready : goal.returns-clause-ready
returns-clause-ready c =
    let f = fits (goal.at.returns-clause-ready c).After-header_checks c.in_ok-header_checks.ensures.formed in
    search (rules, leb-false, not-true)
