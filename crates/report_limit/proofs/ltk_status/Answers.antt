use mir.Facts.{to_z-of_z}
use Rattle.account.specs.View.{to_limit}
use Rattle.account.proofs.Laws.{limit_small}
use mathlib.Core.Path.{◌≡◌}
use mir.Syntax.{w64}
use mir.Val.{to_z, of_z}
use borrow.Author.Rules.{rules}
use Rattle.rules.specs.Report as Report
use Rattle.report_limit.specs.Statuses.{to_status}
use Rattle.report_limit.proofs.ltk_status.Goals as goal

pub ltk_value-requires : goal.ltk_value-requires
unfolding to_limit
ltk_value-requires c =
    let v : to_z w64 (of_z w64 c.in-Value.v) ≡ c.in-Value.v = search rules in
    rw (v, to_z-of_z c.ranges.s) (limit_small c.in-Value.v (rw c.in-Value.is at c.requires.0), c.requires.1)

pub returns-in-Value : goal.returns-in-Value
unfolding to_limit
returns-in-Value c =
    let v : to_z w64 (of_z w64 c.in-Value.v) ≡ c.in-Value.v = search rules in
    rw c.in-Value.is (rw (v, to_z-of_z c.ranges.s) at c.ltk_value.ensures)

pub returns-in-Closed : goal.returns-in-Closed
unfolding to_limit to_status Report.ltk_status
returns-in-Closed c = rw c.in-Closed.is
