use mathlib.Core.Path.{◌≡◌, refl, sym, ap, ◌∙◌}
use native.Mathlib.Omega.{arith}
use native.Mathlib.Nat.{add-mul, mul-le-mul_right}
use lib.ListN.{length}
use lib.Seq.{take_all}
use Rattle.std.specs.Prelude.{flat_map}
use Rattle.octet_writer.proofs.Laws.{written_same}
use Rattle.frame_code_writer.proofs.Fields.{nothing}
use Rattle.frame_message_writer.proofs.Rows.{row_written}
use Rattle.frame_message_writer.proofs.put_rows.Goals as goal

pub loop-row-init : goal.loop-row-init
loop-row-init g c = (((refl, refl), omega arith), nothing)

pub put-requires : goal.put-requires
put-requires g c =
    omega (arith, c.requires, c.loop-row.invariant.0, add-mul c.loop-row.row-index 1 g.row.N, mul-le-mul_right g.row.N c.loop-row-test.true)

pub loop-row-preserved : goal.loop-row-preserved
loop-row-preserved g c =
    let s = c.put.ensures.moved in
    let t = c.loop-row.invariant.0 in (
      ((s.0.0 ∙ t.0.0, s.0.1 ∙ t.0.1), omega (arith, s, t, add-mul c.loop-row.row-index 1 g.row.N)),
      row_written g.T.Octets.bytes c.args.rows.now c.loop-row.row-index _ c.loop-row-test.true c.row-item.is c.loop-row.invariant.1 c.put.ensures.wrote,
    )

pub returns-clause-moved : goal.returns-clause-moved
returns-clause-moved g c =
    let e : c.loop-row.row-index ≡ length c.args.rows.now = omega arith in rw (sym e) c.loop-row.invariant.0

pub returns-clause-wrote : goal.returns-clause-wrote
returns-clause-wrote g c = written_same (ap (flat_map g.T.Octets.bytes) (take_all c.loop-row.row-index c.args.rows.now (omega arith))) c.loop-row.invariant.1
