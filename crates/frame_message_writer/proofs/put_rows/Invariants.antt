use Rattle.std.specs.Prelude.{◌*◌, take, flat_map}
use Rattle.octet_writer.specs.Written.{Moved, Wrote}
use Rattle.frame_message_writer.proofs.put_rows.Given as goal

abbrev pub invariant-loop-row : goal.invariant-loop-row
invariant-loop-row g l = Moved (l.row-index * g.row.N) l.initial.w l.w × Wrote (flat_map g.T.Octets.bytes (take l.row-index l.rows)) l.initial.w l.w
