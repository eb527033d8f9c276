use mathlib.Core.Path.{sym, ap, ◌∙◌}
use mathlib.Core.List.{List}
use Prim.Native.Nat.{ℕ, ◌*◌, ◌+◌}
use native.Mathlib.Omega.{arith}
use lib.ListN.{set}
use Rattle.frame.specs.Hex.{unhex}
use Rattle.frame_reader.proofs.Reader.{copy_more, hex_at, unhex_at, unhex_end, unhex_length}
use Rattle.frame_reader.proofs.decode.Goals as goal

pub digit_value-requires : goal.digit_value-requires
digit_value-requires c = hex_at c.args.line.now _ c.requires.1 (omega arith)

pub digit_value-requires-in-loop-i : goal.digit_value-requires-in-loop-i
digit_value-requires-in-loop-i c = hex_at c.args.line.now _ c.requires.1 (omega arith)

pub loop-i-preserved : goal.loop-i-preserved
loop-i-preserved c =
    let v = c.digit_value.result * 16 + c.digit_value-in-loop-i.result in
    ap (λ (t : List ℕ). set t c.loop-i.i v) c.loop-i.invariant
    ∙ copy_more (unhex c.args.line.now) c.args.buf.now c.loop-i.i _ (omega (arith, unhex_length c.args.line.now)) (omega arith)
    (rw (c.digit_value.ensures.0, c.digit_value-in-loop-i.ensures.0) (sym (unhex_at c.args.line.now c.loop-i.i (omega arith))))

pub returns : goal.returns
returns c = c.loop-i.invariant ∙ unhex_end c.args.line.now c.args.buf.now c.loop-i.i (omega arith) (omega arith)
