-- The digits of the bytes passed are written. Assumes nothing.
use mathlib.Core.Path.{◌≡◌, ◌∙◌}
use native.Mathlib.Omega.{arith}
use lib.ListN.{take}
use lib.Seq.{take_all}
use Rattle.octets.proofs.Places.{write_all}
use Rattle.frame.specs.Hex.{hex}
use Rattle.hex_writer.proofs.Laws.{hex_length, hex_none, hex_more, stored}
use Rattle.hex_writer.proofs.fill_hex.Goals as goal

pub loop-i-init : goal.loop-i-init
loop-i-init c = hex_none c.args.src.now

pub loop-i-preserved : goal.loop-i-preserved
loop-i-preserved c =
    hex_more c.args.src.now c.loop-i.i c.loop-i-test.true c.loop-i.invariant (stored _ _ _ _ (omega arith)) (stored _ _ _ _ (omega arith)) c.hex_digit.ensures
    c.hex_digit-in-loop-i.ensures

pub returns : goal.returns
returns c =
    let e : take c.loop-i.i c.args.src.now ≡ c.args.src.now = take_all c.loop-i.i c.args.src.now (omega arith) in
    rw e at c.loop-i.invariant.bytes ∙ write_all c.args.out.now (hex c.args.src.now) (omega (arith, hex_length c.args.src.now, c.requires))
