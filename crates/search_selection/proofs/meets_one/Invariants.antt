use mathlib.Core.Path.{◌≡◌}
use lib.ListN.{drop}
use Rattle.rules.specs.Command.{some?}
use Rattle.rules.specs.Search as Search
use Rattle.frame_fields.specs.Conditions.{ConditionsFirst, conditions_in}
use Rattle.search_selection.proofs.meets_one.Given as goal

abbrev pub invariant-loop-left : goal.invariant-loop-left
invariant-loop-left l =
    (ConditionsFirst l.left (drop l.at l.b)) × (some? (Search.meets l.id) (conditions_in l.n l.b) ≡ some? (Search.meets l.id) (conditions_in l.left (drop l.at l.b)))
