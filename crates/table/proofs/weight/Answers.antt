-- The weight over all is what is counted and the weight of what is left, from i on. Assumes nothing.
use native.Mathlib.Omega.{arith}
use Prim.Native.Nat.{◌+◌}
use Rattle.table.proofs.Weights.{weight_here, weight_past, weight_ended}
use Rattle.table.proofs.weight.Goals as goal
use Rattle.table.proofs.weight.Goals.{then-all-i, else-all-i}

pub overflow_add-r-in-loop-i : goal.overflow_add-r-in-loop-i
overflow_add-r-in-loop-i c = elim c.if-all-i.branch [ then-all-i w ↦ omega arith | else-all-i w ↦ omega arith ]

pub loop-i-preserved : goal.loop-i-preserved
loop-i-preserved c =
    elim c.if-all-i.branch [
      | then-all-i w ↦ omega (arith, weight_here c.args.code 64 c.args.all.now c.loop-i.i _ (omega arith) w.if-all-i.true)
      | else-all-i w ↦ omega (arith, weight_past c.args.code 64 c.args.all.now c.loop-i.i _ (omega arith) w.if-all-i.false)
    ]

pub returns : goal.returns
returns c =
    omega (arith, weight_ended c.args.code (64 + c.loop-i.i) c.args.all.now c.loop-i.i (omega (arith, c.loop-i-test.false)))
