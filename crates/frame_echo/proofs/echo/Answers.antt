use mathlib.Core.Path.{◌≡◌}
use Prim.Native.Nat.{◌*◌, ◌≤◌}
use native.Mathlib.Omega.{arith}
use lib.ListN.{length, take}
use lib.Seq.{length-take-le}
use Rattle.frame.specs.Frame.{line_frame, given, read_frame}
use Rattle.octet_writer.proofs.Laws.{written_same, written_then}
use Rattle.frame_echo.proofs.Laws.{frame_most, frame_half, read_front, echo_done}
use Rattle.frame_echo.proofs.echo.Goals.{After-rewrite-n}
use Rattle.frame_echo.proofs.echo.Goals as goal

-- the frame's length, and its digits, which are at most as many as the line's bytes
count : (s : After-rewrite-n) → s.rewrite-n.result ≡ length (line_frame s.args.line.now)
unfolding read_frame given
count s = s.rewrite-n.ensures.length_is

digits : (s : After-rewrite-n) → 2 * length (take s.rewrite-n.result s.rewrite-n.new.frame) ≤ length s.args.line.now
digits s =
    omega (arith, count s, frame_half s.args.line.now, length-take-le s.rewrite-n.result s.rewrite-n.new.frame (omega (arith, count s, frame_most s.args.line.now, s.rewrite-n.auto.frame)))

pub put_hex-requires : goal.put_hex-requires
put_hex-requires c = omega (arith, digits (goal.at.put_hex-requires c).After-rewrite-n, c.requires)

pub put-requires : goal.put-requires
put-requires c = omega (arith, digits (goal.at.put-requires c).After-rewrite-n, c.requires, c.put_hex.ensures.moved.0.1, c.put_hex.ensures.moved.1)

pub returns-clause-wrote : goal.returns-clause-wrote
returns-clause-wrote c =
    written_same (echo_done c.args.line.now _ (read_front c.args.line.now _ _ _ c.rewrite-n.ensures)) (written_then c.put_hex.ensures.wrote c.put.ensures.wrote)
