use native.Mathlib.Omega.{arith}
use mathlib.Core.Path.{◌∙◌}
use lib.IntN.{◌-ℤ◌}
use mir.Syntax.{w64}
use mir.Val.{SFits}
use mir.Facts.{to_z-of_z}
use Rattle.amount.proofs.Integer.{ints, told, diff, back}
use Rattle.rules.specs.Report as Report
use Rattle.report_limit.specs.Statuses.{to_status}
use Rattle.report_limit.proofs.Laws.{used_is, left_is}
use Rattle.report_limit.proofs.ltk_value.Goals as goal

pub returns-then-v-lt0 : goal.returns-then-v-lt0
unfolding Report.ltk_status
returns-then-v-lt0 c =
    let g = to_z-of_z c.ranges.v in
    let h = to_z-of_z c.ranges.s in
    let t = rw g at c.if-v-lt0.true in
    let f : SFits w64 (c.args.s -ℤ c.args.v) = omega (arith, ints, told c.ranges.s, told c.ranges.v, diff c.args.s c.args.v) in
    let u = back c.clamp.result c.clamp.type_inv ∙ rw (g, h) at c.clamp.ensures.value ∙ used_is c.args.v c.args.s t in
    let l = back c.max.result c.max.type_inv ∙ rw (g, h, to_z-of_z f) at c.max.ensures.value ∙ left_is c.args.v c.args.s in
    rw t (rw (g, u, l) at c.busy_status.ensures)

pub returns-else-v-lt0 : goal.returns-else-v-lt0
unfolding to_status Report.ltk_status
returns-else-v-lt0 c = let g = to_z-of_z c.ranges.v in rw (rw g at c.if-v-lt0.false, g)
