use Rattle.std.proofs.Common.{rules, refl, sym, arith, [], ◌∷◌, Ok}
use Rattle.rules.specs.Machine.{effect}
use Rattle.rules.specs.Report.{report_of}
use Rattle.frame_fields.specs.Conditions.{conditions_in}
use Rattle.table.specs.View.{accounts_of}
use Rattle.command.specs.View.{to_header}
use Rattle.rules.specs.Command.{Search}
use Rattle.ledger.specs.Inside.{ledger_of}
use Rattle.ledger.specs.Promise.{Reports}
use Rattle.ledger.specs.View.{ledger_view, view_of}
use Rattle.search_selection.proofs.Marks.{length_codes}
use Rattle.report_search.proofs.Found.{found_report, report_most}
use Rattle.message_inquiry.proofs.Laws.{declined, reported}
use Rattle.call_search.proofs.search.Goals.{After-add}
use Rattle.call_search.proofs.search.Goals as goal

pub returns-in_err-set-clause-reports : goal.returns-in_err-set-clause-reports
returns-in_err-set-clause-reports c = declined _ _ _ _ _ (search rules) c.in_err-set.ensures.says

pub put_search-length-requires : goal.put_search-length-requires
put_search-length-requires c = let r = rw (← c.l.view_is) at c.in_ok-set.ensures.ready in (r.2, r.0)

answered : (c : After-add) → let l = ledger_of c.l.inside in
    Reports (Search (to_header c.args.header) (conditions_in c.args.conditions.count c.args.conditions.texts) ∷ []) l c.args.report.now (Ok c.put_search-length.result) (record { table = l.table; book = c.add.new.self }) c.put_search-length.new.out
unfolding effect to_header ledger_view view_of report_of
answered c =
    let cs = conditions_in c.args.conditions.count c.args.conditions.texts in
    let xs = accounts_of c.l.inside.table in
    let r = found_report cs xs _ (rw (← c.l.view_is) at c.in_ok-set.ensures.set) c.args.header.sender _ _ _ c.put_search-length.ensures in
    let most = report_most c.args.header.sender xs cs (omega (arith, length_codes xs, c.l.invariant.inv.table.few)) in
    let ready = rw (← c.l.view_is) at c.in_ok-set.ensures.ready in
    reported _ _ _ (to_header c.args.header) _ _ _ refl (sym (rw (← c.l.view_is) at c.in_ok-set.ensures.says)) ready.1 refl c.add.ensures.used (rw c.today.ensures at c.add.ensures.ids) r.bytes (omega (arith, r.behind))
    (omega (arith, r.behind, most, ready.0))

pub invariant_of-l : goal.invariant_of-l
invariant_of-l c = (answered (goal.at.invariant_of-l c).After-add).sound c.l.invariant

pub returns-clause-reports : goal.returns-clause-reports
returns-clause-reports c = rw (← c.l.view_is) (answered (goal.at.returns-clause-reports c).After-add)
