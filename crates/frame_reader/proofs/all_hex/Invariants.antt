use mathlib.Core.Path.{◌≡◌}
use mathlib.Core.Bool.{◌&&◌}
use lib.ListN.{drop}
use Rattle.frame.specs.Hex.{all_hex}
use Rattle.frame_reader.proofs.all_hex.Given as goal

abbrev pub invariant-loop-d : goal.invariant-loop-d
invariant-loop-d l = (l.all && all_hex (drop l.d-index l.line)) ≡ all_hex l.line
