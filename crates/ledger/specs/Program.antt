-- Demand 3 of the program: what one of its calls does to its record, as the calls' contracts say, and what then holds over every list of calls. Assumes
-- nothing.
use Rattle.std.specs.Prelude.{◌≡◌, List, [], ◌∷◌, ℕ, length, take}
use Rattle.rules.specs.Command.{Call}
use Rattle.rules.specs.Demand.{DemandFrom, Plays}
use Rattle.rules.specs.Machine.{Machine, Outcome}
use Rattle.ledger.specs.declared.Ledger.{Ledger}
use Rattle.ledger.specs.Promise.{Stepped, SoundLedger, Played}
use Rattle.ledger.specs.View.{ledger_view}

-- the call k on the record l left the record u: some buffer of the call's length was lent, and what came back meets the call's contract
pub record Step (l : Ledger) (k : Call) (o : Outcome) (u : Ledger) : Type 0 where
  pub lent_report : List ℕ
  pub left_report : List ℕ
  pub length_is : length lent_report ≡ k.room
  pub result : Stepped
  pub table_is : u.table ≡ result.table
  pub used_is : u.book.used ≡ result.used
  pub played : Played (k.command ∷ []) l.table l.book.ids l.book.days l.book.used lent_report result u.book.ids u.book.days left_report
  pub outcome_is : o ≡ record { answer = result.answer; report = take result.report_len left_report }

-- demand 3, said once of the list: calls from a sound record on, each on what the one before it left, with whatever outcomes meet their contracts. The record
-- views as some machine s: what `fresh` gives as `empty`, and from there on `DemandFrom empty` is `Demand`. Its parts, from the history machine to "exactly
-- when", are the fields of `DemandFrom`
abbrev pub DemandOfCalls : Type 0
DemandOfCalls =
    (s : Machine) (l u : Ledger) (ks : List Call) (os : List Outcome) → SoundLedger l → ledger_view l ≡ s → Plays Step l ks os u → DemandFrom s ks os (ledger_view u)
