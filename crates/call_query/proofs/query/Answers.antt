use Rattle.std.proofs.Common.{rules, ◌≡◌, refl, sym, arith, [], ◌∷◌, length, take, Ok}
use lib.ListN.{length-take}
use Rattle.rules.specs.Machine.{effect}
use Rattle.rules.specs.Report.{report_of}
use Rattle.command.proofs.Forms.{ids_taken}
use Rattle.table.specs.View.{accounts_of}
use Rattle.rules.specs.Command.{Query}
use Rattle.command.specs.View.{to_header, ids_from}
use Rattle.ledger.specs.Inside.{ledger_of}
use Rattle.ledger.specs.Promise.{Reports}
use Rattle.ledger.specs.View.{ledger_view, view_of}
use Rattle.report_blocks.proofs.Blocks.{report_most}
use Rattle.message_inquiry.proofs.Laws.{declined, reported}
use Rattle.call_query.proofs.query.Goals.{After-add}
use Rattle.call_query.proofs.query.Goals as goal

pub returns-in_err-query_checks-clause-reports : goal.returns-in_err-query_checks-clause-reports
returns-in_err-query_checks-clause-reports c = declined _ _ _ _ _ (search rules) c.in_err-query_checks.ensures.says

pub put_report-length-requires : goal.put_report-length-requires
put_report-length-requires c =
    let r = c.in_ok-query_checks.ensures.ready in
    (omega (arith, r, length-take c.args.ids.count c.args.ids.rows), omega (arith, r, length-take c.args.ids.count c.args.ids.rows))

answered : (c : After-add) → let l = ledger_of c.l.inside in
    Reports (Query (to_header c.args.header) (ids_from 0 c.args.ids.count c.args.ids.rows) ∷ []) l c.args.report.now (Ok c.put_report-length.result) (record { table = l.table; book = c.add.new.self }) c.put_report-length.new.out
unfolding effect report_of to_header ledger_view view_of
answered c =
    let ready = rw (← c.l.view_is) at c.in_ok-query_checks.ensures.ready in
    let long : length c.args.ids.rows ≡ 16 = search rules in
    let r = rw (← ids_taken c.args.ids.count c.args.ids.rows (omega (arith, ready))) at c.put_report-length.ensures in
    let most = report_most c.args.header.sender (accounts_of c.l.inside.table) (take c.args.ids.count c.args.ids.rows) in
    reported _ _ _ (to_header c.args.header) _ _ _ refl (sym (rw (← c.l.view_is) at c.in_ok-query_checks.ensures.says)) ready.2 refl c.add.ensures.used (rw c.today.ensures at c.add.ensures.ids) r.bytes (omega (arith, r.behind))
    (omega (arith, c.put_report-length.ensures.behind, most, ready, length-take c.args.ids.count c.args.ids.rows))

pub invariant_of-l : goal.invariant_of-l
invariant_of-l c = (answered (goal.at.invariant_of-l c).After-add).sound c.l.invariant

pub returns-clause-reports : goal.returns-clause-reports
returns-clause-reports c = rw (← c.l.view_is) (answered (goal.at.returns-clause-reports c).After-add)
