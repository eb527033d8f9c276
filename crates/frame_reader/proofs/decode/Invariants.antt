use mathlib.Core.Path.{◌≡◌}
use mathlib.Core.List.{◌++◌}
use lib.ListN.{take, drop}
use Rattle.frame.specs.Hex.{unhex}
use Rattle.frame_reader.proofs.decode.Given as goal

abbrev pub invariant-loop-i : goal.invariant-loop-i
invariant-loop-i l = l.buf ≡ take l.i (unhex l.line) ++ drop l.i l.initial.buf
