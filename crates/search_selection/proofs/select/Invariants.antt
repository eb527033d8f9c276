use mathlib.Core.Path.{◌≡◌}
use mathlib.Core.List.{map}
use lib.ListN.{take}
use Rattle.rules.specs.Search.{selects}
use Rattle.frame_fields.specs.Conditions.{conditions_in}
use Rattle.search_set.specs.Sets.{set_of}
use Rattle.table.specs.Inside.{table_of}
use Rattle.table.specs.View.{accounts_of}
use Rattle.search_selection.proofs.select.Given as goal

abbrev pub invariant-loop-i : goal.invariant-loop-i
invariant-loop-i l = l.set ≡ set_of (map (selects (conditions_in l.n l.b)) (take l.i (accounts_of (table_of l.t-inside))))
