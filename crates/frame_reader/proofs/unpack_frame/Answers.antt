use mathlib.Core.Path.{sym}
use Rattle.frame_reader.proofs.Reader.{frame_at, unframed}
use Rattle.frame_reader.proofs.unpack_frame.Goals as goal

pub returns-in_err-n : goal.returns-in_err-n
returns-in_err-n c = record { bytes = c.in_err-n.ensures.1.bytes_are; frame = rw c.from_residual.ensures (unframed c.args.line.now (sym c.in_err-n.ensures.0)) }

pub returns : goal.returns
returns c = record { bytes = c.in_ok-n.ensures.1.bytes_are; frame = frame_at c.args.line.now _ _ _ c.in_ok-n.ensures.1 _ c.frame_length.ensures }
