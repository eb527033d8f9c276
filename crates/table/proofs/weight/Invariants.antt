-- The weight over all is what is counted and the weight of what is left, from i on. Assumes nothing.
use mathlib.Core.Path.{◌≡◌}
use Prim.Native.Nat.{◌+◌, ◌*◌, ◌≤◌}
use lib.ListN.{drop}
use Rattle.table.specs.Weights.{weight_of}
use Rattle.table.proofs.weight.Given as goal

abbrev pub invariant-loop-i : goal.invariant-loop-i
invariant-loop-i l = (l.r ≤ 127 * l.i) × (weight_of l.code 64 l.all ≡ l.r + weight_of l.code (64 + l.i) (drop l.i l.all))
