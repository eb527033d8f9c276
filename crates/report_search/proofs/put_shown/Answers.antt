use Rattle.amount.proofs.Integer.{back}
use Rattle.rules.specs.Search.{shown_bytes}
use Rattle.account.specs.View.{to_account}
use Rattle.octet_writer.proofs.Laws.{written_then}
use Rattle.report_search.proofs.put_shown.Goals as goal

pub returns-clause-wrote : goal.returns-clause-wrote
unfolding to_account shown_bytes
returns-clause-wrote c =
    written_then c.put.ensures.wrote
    (written_then (rw c.account_id.ensures at c.put_all.ensures.wrote)
    (written_then (rw (back c.state_of.result c.state_of.type_inv, c.state_of.ensures) at c.put-2.ensures.wrote)
    (written_then c.put_turnovers.ensures.wrote c.put_letters.ensures.wrote)))
