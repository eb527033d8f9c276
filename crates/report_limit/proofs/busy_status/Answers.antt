use native.Mathlib.Omega.{arith}
use mir.Facts.{to_z-of_z}
use Rattle.rules.specs.Report as Report
use Rattle.report_limit.specs.Statuses.{to_status}
use Rattle.report_limit.proofs.Laws.{percent_most}
use Rattle.report_limit.proofs.busy_status.Goals as goal

pub overflow_cast-result : goal.overflow_cast-result
overflow_cast-result c =
    let e = rw (to_z-of_z c.ranges.used, to_z-of_z c.ranges.v) at c.percent.ensures in
    omega (arith, e, percent_most c.args.used c.args.v c.requires.0)

pub returns : goal.returns
unfolding to_status Report.busy_status
returns c = rw (c.percent.ensures, to_z-of_z c.ranges.v, to_z-of_z c.ranges.used, to_z-of_z c.ranges.left)
