-- The report of a query.
use borrow.Author.Rules.{rules}
use native.Mathlib.Omega.{arith}
use mathlib.Core.Path.{◌≡◌, refl, ap}
use lib.ListN.{length, get_or}
use lib.Seq.{take_all}
use mathlib.Core.List.{[]}
use Rattle.octets.specs.Octets.{part}
use Rattle.table.specs.View.{accounts_of}
use Rattle.octet_writer.proofs.Laws.{written_then}
use Rattle.report_blocks.proofs.Blocks.{report_none, report_room_lem, report_more}
use Rattle.report_blocks.proofs.put_report.Goals as goal

pub loop-id-init : goal.loop-id-init
loop-id-init c = ((refl, refl), report_none _ _ c.args.sender (accounts_of c.args.t.now) c.args.ids.now)

pub put_block-requires : goal.put_block-requires
put_block-requires c =
    omega (arith, report_room_lem _ _ c.args.sender (accounts_of c.args.t.now) c.args.ids.now c.loop-id.id-index _ _ c.loop-id.invariant.1, ap length c.new-w.ensures.1)

pub loop-id-preserved : goal.loop-id-preserved
unfolding part
loop-id-preserved c =
    let id = get_or c.args.ids.now c.loop-id.id-index [] in
    let e : length id ≡ 10 = search rules in (
      search rules,
      report_more _ _ c.args.sender (accounts_of c.args.t.now) c.args.ids.now c.loop-id.id-index _ _ c.loop-id.invariant.1 _ _ [] c.loop-id-test.true
          (rw (c.named.ensures, take_all 10 id (omega arith)) at c.put_block.ensures.wrote),
    )

pub returns : goal.returns
returns c =
    let e = take_all c.loop-id.id-index c.args.ids.now (omega arith) in
    let w = written_then (rw (c.new-w.ensures.1, c.new-w.ensures.2) at c.put.ensures.wrote) (rw e at c.loop-id.invariant.1) in
    search rules
