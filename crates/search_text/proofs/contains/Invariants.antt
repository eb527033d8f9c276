-- A text is looked for from every place on. The outer invariant: what is left of the id, from the place start on, contains the text exactly when the id does.
-- The inner one: the text begins there exactly when its characters from k on begin at start + k. Assumes nothing.
use mathlib.Core.Path.{◌≡◌}
use mathlib.Core.Bool.{false}
use Prim.Native.Nat.{◌+◌, ◌-◌, ◌≤◌}
use lib.ListN.{length, drop}
use Rattle.rules.specs.Search.{begins, contains}
use Rattle.search_text.proofs.contains.Given as goal

abbrev pub invariant-characters : goal.invariant-characters
invariant-characters l =
    (l.k ≤ length l.text) × (l.found ≡ false) × (begins l.text (drop l.start l.id) ≡ begins (drop l.k l.text) (drop (l.start + l.k) l.id))

abbrev pub decreases-characters : goal.decreases-characters
decreases-characters l = l.n - l.k

abbrev pub invariant-starts : goal.invariant-starts
invariant-starts l = (l.start ≤ length l.id) × (l.found ≡ false) × (contains l.text l.id ≡ contains l.text (drop l.start l.id))

abbrev pub decreases-starts : goal.decreases-starts
decreases-starts l = l.m - l.start
