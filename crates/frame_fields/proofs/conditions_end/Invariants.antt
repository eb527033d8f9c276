-- Conditions are passed over one by one. The invariant: those that are left are well-formed exactly when all are, and end where all do. Assumes nothing.
use mathlib.Core.Path.{◌≡◌}
use Prim.Native.Nat.{◌+◌, ◌-◌, ◌*◌, ◌≤◌}
use lib.ListN.{drop}
use Rattle.frame_fields.specs.Conditions.{are_conditions, conditions_width}
use Rattle.frame_fields.proofs.conditions_end.Given as goal

abbrev pub invariant-loop : goal.invariant-loop
invariant-loop l = record {
  short : l.place ≤ 48 + l.counter * 12;
  formed : are_conditions l.n (drop l.from l.b) ≡ are_conditions (l.n - l.counter) (drop l.place l.b);
  ends : l.from + conditions_width l.n (drop l.from l.b) ≡ l.place + conditions_width (l.n - l.counter) (drop l.place l.b);
}
