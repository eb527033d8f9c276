use mathlib.Core.Path.{◌≡◌}
use Rattle.amount.proofs.Integer.{back}
use Rattle.rules.specs.Account.{state, turnover}
use Rattle.account.specs.View.{to_account, to_turnovers, to_turnover}
use Rattle.rules.specs.Report as Report
use Rattle.report_limit.specs.Statuses.{to_status}
use Rattle.octet_writer.proofs.Laws.{written_then}
use Rattle.report_account.proofs.put_account.Goals as goal

pub ltk_status-ltk-requires : goal.ltk_status-ltk-requires
unfolding to_account
ltk_status-ltk-requires c =
    rw (back c.state_of.result c.state_of.type_inv, c.state_of.ensures) (c.requires.2, c.requires.1.state_small)

pub lpo_status-lpo-requires : goal.lpo_status-lpo-requires
unfolding to_account
lpo_status-lpo-requires c = c.requires.3

pub returns-clause-wrote : goal.returns-clause-wrote
unfolding to_account to_turnovers to_turnover turnover Report.account_block
returns-clause-wrote c =
    let x = to_account c.args.x in
    let le : to_status c.ltk_status-ltk.result ≡ Report.ltk_status x.ltk (state x) = rw (back c.state_of.result c.state_of.type_inv, c.state_of.ensures) at c.ltk_status-ltk.ensures in
    let pe : to_status c.lpo_status-lpo.result ≡ Report.lpo_status x.lpo x.turnovers.icdt = rw c.turnover.ensures at c.lpo_status-lpo.ensures in
    written_then c.put.ensures.wrote (written_then (rw le at c.put_status.ensures.wrote) (rw pe at c.put_status-2.ensures.wrote))
