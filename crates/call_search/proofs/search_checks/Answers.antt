-- The checks of a search. Assumes nothing.
use Rattle.std.proofs.Common.{rules, ◌≡◌, ◌≤◌, List, ℕ, length, arith, sym, ◌∙◌, Bool}
use Rattle.std.specs.Prelude.{◌&&◌, leb}
use mathlib.Core.Bool.{and_assoc}
use mir.Syntax.{w8}
use lib.ListN.{get_or}
use mir.Val.{Fits}
use borrow.Author.Tests.{leb-true, leb-false, not-true}
use Rattle.octets.proofs.Numbers.{both}
use Rattle.rules.specs.Command.{Search, some?, is_code, is_few, well_formed}
use Rattle.rules.specs.Machine.{inquiry_checks, checks, answer, first_failure}
use Rattle.rules.specs.Search.{selects}
use Rattle.rules.proofs.Checks.{early, late}
use Rattle.refusal.proofs.Numbers.{no_zero}
use Rattle.frame_fields.specs.Conditions.{conditions_in, are_conditions}
use Rattle.frame.proofs.Fields.{few_range}
use Rattle.command.specs.View.{to_header}
use Rattle.command.proofs.Texts.{search_formed}
use Rattle.table.specs.View.{accounts_of}
use Rattle.book.specs.Entries.{book_of}
use Rattle.ledger.specs.Inside.{ledger_of}
use Rattle.ledger.specs.View.{view_of, ledger_view, lent}
use Rattle.ledger.proofs.Laws.{not_full}
use Rattle.report_search.proofs.Found.{found_some}
use Rattle.call_search.proofs.Laws.{conditions_first}
use Rattle.call_search.proofs.search_checks.Goals.{After-header_checks}
use Rattle.call_search.proofs.search_checks.Goals as goal

-- the checks, as the code makes them
abbrev all : After-header_checks → List (ℕ × Bool)
all s =
    inquiry_checks (ledger_view s.args.l.now) (to_header s.args.header) ((s.is_header.result && s.conditions_fit.result) && leb 8192 s.args.room) (some? (selects (conditions_in s.args.conditions.count s.args.conditions.texts)) (accounts_of s.args.l.now.table))

right : (s : After-header_checks) → first_failure (all s) ≡ answer (ledger_view s.args.l.now) (lent s.args.room (Search (to_header s.args.header) (conditions_in s.args.conditions.count s.args.conditions.texts)))
unfolding answer checks ledger_view view_of
right s =
    let texts_long : length s.args.conditions.texts ≡ 160 = search rules in
    let bytes : (k : ℕ) → Fits w8 (get_or s.args.conditions.texts k 0) = λ k. search rules in
    let formed : well_formed (Search (to_header s.args.header) (conditions_in s.args.conditions.count s.args.conditions.texts))
    ≡ (((is_code s.args.header.sender && leb s.args.header.second 86399) && is_few s.args.conditions.count) && are_conditions s.args.conditions.count s.args.conditions.texts) = search (rules, search_formed, bytes) in
    rw (s.is_header.ensures, s.conditions_fit.ensures, formed, and_assoc (is_code s.args.header.sender && leb s.args.header.second 86399) (is_few s.args.conditions.count) (are_conditions s.args.conditions.count s.args.conditions.texts))

pub returns-in_err-header_checks-clause-says : goal.returns-in_err-header_checks-clause-says
unfolding ledger_view view_of to_header book_of
returns-in_err-header_checks-clause-says c =
    let s = (goal.at.returns-in_err-header_checks-clause-says c).After-header_checks in
    (grind arith) ∙ early 5 (all s) _ c.in_err-header_checks.ensures.says (no_zero c.in_err-header_checks.field-0.0) ∙ right s

pub select-set-requires : goal.select-set-requires
select-set-requires c =
    let texts_long : length c.args.conditions.texts ≡ 160 = search rules in
    let long : 96 ≤ length c.args.conditions.texts = omega arith in
    let f = both _ _ (sym c.conditions_fit.ensures ∙ (both _ _ (both _ _ c.in_ok-header_checks.ensures.formed).0).1) in
    conditions_first c.args.conditions.count c.args.conditions.texts (few_range c.args.conditions.count f.0).1 long f.1

pub returns-in_err-check-clause-says : goal.returns-in_err-check-clause-says
unfolding first_failure ledger_view view_of to_header book_of
returns-in_err-check-clause-says c =
    let s = (goal.at.returns-in_err-check-clause-says c).After-header_checks in
    let t = late 5 (all s) tt (sym c.in_ok-header_checks.ensures.says) ∙ right s in
    rw (← c.l.view_is) ((grind arith) ∙ rw (← found_some (selects (conditions_in c.args.conditions.count c.args.conditions.texts)) (accounts_of c.args.l.now.table), ← c.l.view_is, ← c.select-set.ensures.says, c.in_err-check.ensures.0) at t)

pub returns-in_err-check-2-clause-says : goal.returns-in_err-check-2-clause-says
unfolding first_failure ledger_view view_of to_header book_of
returns-in_err-check-2-clause-says c =
    let s = (goal.at.returns-in_err-check-2-clause-says c).After-header_checks in
    let t = late 5 (all s) tt (sym c.in_ok-header_checks.ensures.says) ∙ right s in
    rw (← c.l.view_is) ((grind arith) ∙ rw (← found_some (selects (conditions_in c.args.conditions.count c.args.conditions.texts)) (accounts_of c.args.l.now.table), ← c.l.view_is, ← c.select-set.ensures.says, c.in_ok-check.ensures, ← not_full (ledger_of c.l.inside)) at t)

pub returns-clause-says : goal.returns-clause-says
unfolding first_failure ledger_view view_of to_header book_of
returns-clause-says c =
    let s = (goal.at.returns-clause-says c).After-header_checks in
    let t = late 5 (all s) tt (sym c.in_ok-header_checks.ensures.says) ∙ right s in
    rw (← c.l.view_is) ((grind arith) ∙ rw (← found_some (selects (conditions_in c.args.conditions.count c.args.conditions.texts)) (accounts_of c.args.l.now.table), ← c.l.view_is, ← c.select-set.ensures.says, c.in_ok-check.ensures, ← not_full (ledger_of c.l.inside)) at t)

pub returns-clause-ready : goal.returns-clause-ready
returns-clause-ready c =
    let r : 8192 ≤ c.args.room = leb-true 8192 c.args.room (both (c.is_header.result && c.conditions_fit.result) (leb 8192 c.args.room) c.in_ok-header_checks.ensures.formed).1 in
    search (rules, leb-false, not-true)
