use mathlib.Core.Path.{ap, ◌∙◌}
use mathlib.Core.Bool.{Bool, ◌&&◌}
use Prim.Native.Nat.{◌+◌}
use native.Mathlib.Omega.{arith}
use lib.ListN.{drop}
use Rattle.frame.specs.Hex.{all_hex}
use Rattle.frame_reader.proofs.Reader.{hex_more, hex_end}
use Rattle.frame_reader.proofs.all_hex.Goals as goal

pub loop-d-preserved : goal.loop-d-preserved
loop-d-preserved c =
    ap (λ (t : Bool). (c.loop-d.all && t) && all_hex (drop (c.loop-d.d-index + 1) c.args.line.now)) c.is_hex-all.ensures
    ∙ hex_more c.args.line.now c.loop-d.d-index c.loop-d.all (omega arith) c.loop-d.invariant

pub returns : goal.returns
returns c = hex_end _ _ _ (omega arith) c.loop-d.invariant
