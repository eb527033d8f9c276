use mathlib.Core.Path.{refl}
use native.Mathlib.Omega.{arith}
use lib.ListN.{length-set}
use Rattle.command.specs.Item.{rows_in}
use Rattle.command.proofs.Placed.{row_more}
use Rattle.command.proofs.rows_at.Goals as goal

pub loop-i-init : goal.loop-i-init
unfolding rows_in
loop-i-init g c = (refl, refl)

pub loop-i-preserved : goal.loop-i-preserved
loop-i-preserved g c = (
  simp length-set (omega arith),
  row_more g.T.Octets.of_bytes g.row.N c.args.b.now c.loop-i.rows c.loop-i.i _ (omega arith) c.loop-i.invariant.1 c.read.ensures,
)
