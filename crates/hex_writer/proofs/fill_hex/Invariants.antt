-- The digits of the bytes passed are written. Assumes nothing.
use Prim.Native.Nat.{◌*◌}
use lib.ListN.{take}
use Rattle.frame.specs.Hex.{hex}
use Rattle.octet_writer.specs.Written.{Written}
use Rattle.hex_writer.proofs.fill_hex.Given as goal

abbrev pub invariant-loop-i : goal.invariant-loop-i
invariant-loop-i l = Written l.initial.out 0 (hex (take l.i l.src)) l.out (2 * l.i)
