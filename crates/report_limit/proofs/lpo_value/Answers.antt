use native.Mathlib.Omega.{arith}
use mathlib.Core.Path.{ap, ◌∙◌}
use lib.IntN.{pos}
use mir.Facts.{to_z-of_z}
use Rattle.amount.proofs.Integer.{low_to_z}
use Rattle.rules.specs.Report as Report
use Rattle.report_limit.specs.Statuses.{to_status}
use Rattle.report_limit.proofs.Laws.{smaller_is, lpo_used_small, left_fits}
use Rattle.report_limit.proofs.lpo_value.Goals as goal

pub returns-then-v-gt0 : goal.returns-then-v-gt0
unfolding Report.lpo_status
returns-then-v-gt0 c =
    let g = to_z-of_z c.ranges.v in
    let t = rw g at c.if-v-gt0.true in
    let e = rw (c.unsigned_abs.ensures.value, g) at c.min-used.ensures in
    let f = left_fits c.args.v (Report.lpo_used c.args.v c.args.n) c.requires (lpo_used_small c.args.v c.args.n) in
    let u = low_to_z (omega (arith, e, c.requires)) ∙ ap pos e ∙ smaller_is c.args.v c.args.n t in
    rw t (rw (g, u, to_z-of_z f) at c.busy_status.ensures)

pub returns-else-v-gt0 : goal.returns-else-v-gt0
unfolding to_status Report.lpo_status
returns-else-v-gt0 c = let g = to_z-of_z c.ranges.v in rw (rw g at c.if-v-gt0.false, g)
