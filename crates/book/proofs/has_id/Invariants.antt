-- The answer over all places is the answer over the first n. Assumes nothing.
use mathlib.Core.Path.{◌≡◌}
use mathlib.Core.List.{List}
use Prim.Native.Nat.{ℕ}
use Rattle.rules.specs.Message.{in_book}
use Rattle.book.specs.Entries.{entries_of}
use Rattle.book.proofs.has_id.Given as goal

abbrev pub invariant-loop-n : goal.invariant-loop-n
invariant-loop-n l = (days : List ℕ) → in_book l.id (entries_of l.ids days l.used) ≡ in_book l.id (entries_of l.ids days l.n)
