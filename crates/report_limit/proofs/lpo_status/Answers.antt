use Rattle.account.specs.View.{to_limit}
use Rattle.account.proofs.Laws.{limit_small}
use mathlib.Core.Path.{◌≡◌}
use mir.Syntax.{w64}
use mir.Val.{to_z, of_z}
use borrow.Author.Rules.{rules}
use Rattle.rules.specs.Report as Report
use Rattle.report_limit.specs.Statuses.{to_status}
use Rattle.report_limit.proofs.lpo_status.Goals as goal

pub lpo_value-requires : goal.lpo_value-requires
unfolding to_limit
lpo_value-requires c =
    let v : to_z w64 (of_z w64 c.in-Value.v) ≡ c.in-Value.v = search rules in
    rw (v) (limit_small c.in-Value.v (rw c.in-Value.is at c.requires))

pub returns-in-Value : goal.returns-in-Value
unfolding to_limit
returns-in-Value c =
    let v : to_z w64 (of_z w64 c.in-Value.v) ≡ c.in-Value.v = search rules in
    rw c.in-Value.is (rw (v) at c.lpo_value.ensures)

pub returns-in-Closed : goal.returns-in-Closed
unfolding to_limit to_status Report.lpo_status
returns-in-Closed c = rw c.in-Closed.is
