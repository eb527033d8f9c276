-- The program that plays lines: which records it reaches, and its runs one after the other, each as the contract of `play_lines` says. Assumes nothing.
use Rattle.std.specs.Prelude.{◌≡◌, List, [], ◌++◌, ℕ, take}
use Rattle.rules.specs.Demand.{DemandFrom}
use Rattle.rules.specs.Invariant.{Invariant}
use Rattle.rules.specs.Machine.{Machine, Outcome}
use Rattle.table.specs.declared.Table.{Table}
use Rattle.ledger.specs.declared.Ledger.{Ledger}
use Rattle.ledger.specs.Promise.{Sound, SoundLedger}
use Rattle.ledger.specs.View.{view_of, ledger_view}
use Rattle.play_lines.specs.Lines.{played, printed_all, printed_lines, calls_in, of_calls}
use Rattle.play_lines.specs.Run.{Ran, RanIs}

-- the record is the history machine after these lines, from the sound machine s on
pub record Reached (s : Machine) (ls : List (List ℕ)) (t : Table) (ids days : List ℕ) (used : ℕ) : Type 0 where
  pub start_sound : Invariant s
  pub sound : Sound t ids days used
  pub state : view_of t ids days used ≡ played s ls

-- runs from a sound record on that views as the machine s, as what `fresh` gives does as `empty`; each on what the one before it left, with whatever text
-- and buffer: the lines that they played, and what they wrote
pub data Runs (s : Machine) : Table → List ℕ → List ℕ → ℕ → List (List ℕ) → List ℕ → Type 0 where
  start : {l : Ledger} → SoundLedger l → ledger_view l ≡ s → Runs s l.table l.book.ids l.book.days l.book.used [] []
  then : {t : Table} {ids days : List ℕ} {used : ℕ} {ls : List (List ℕ)} {bytes input out ids' days' out' : List ℕ} {r : Ran} → Runs s t ids days used ls bytes
      → (p : RanIs t ids days used input out r ids' days' out') → Runs s r.table ids' days' r.used (ls ++ p.passed.lines) (bytes ++ take r.written out')

-- demand 3 of the lines that `play_lines` plays, said once of all of them, in however many runs: the bytes written are the history machine's answer lines, and
-- whoever reads answers and reports off these bytes reads those of demand 3. From `empty` on `DemandFrom` is `Demand`
abbrev pub DemandOfRuns : Type 0
DemandOfRuns =
    (s : Machine) (t : Table) (ids days : List ℕ) (used : ℕ) (ls : List (List ℕ)) (bytes : List ℕ) → Runs s t ids days used ls bytes
    → (bytes ≡ printed_lines s ls)
    × ((os : List Outcome) → printed_all os ≡ bytes → DemandFrom s (calls_in ls) (of_calls ls os) (view_of t ids days used))
