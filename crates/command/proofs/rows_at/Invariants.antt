use Rattle.std.specs.Prelude.{◌≡◌, length, take, drop}
use Rattle.command.specs.Item.{rows_in}
use Rattle.command.proofs.rows_at.Given as goal

abbrev pub invariant-loop-i : goal.invariant-loop-i
invariant-loop-i g l = (length l.rows ≡ 16) × (take l.i l.rows ≡ rows_in g.T.Octets.of_bytes g.row.N l.i (drop 48 l.b))
