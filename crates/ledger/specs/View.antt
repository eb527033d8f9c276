-- Table and book as the history machine. Assumes nothing.
use Rattle.std.specs.Prelude.{List, [], ◌∷◌, ℕ}
use Rattle.rules.specs.Command.{Command, Call}
use Rattle.rules.specs.Machine.{Machine, next, Outcome, outcome}
use Rattle.table.specs.declared.Table.{Table}
use Rattle.table.specs.View.{accounts_of}
use Rattle.book.specs.Entries.{entries_of}
use Rattle.book.specs.declared.Book.{Book}

-- the record as contracts see it
pub record Ledger : Type 0 where
  pub table : Table
  pub book : Book

-- the accounts in table order, the open day, the ids with their days
unfoldable pub view_of : Table → List ℕ → List ℕ → ℕ → Machine
view_of t ids days used = record { day = t.day; accounts = accounts_of t; ids = entries_of ids days used }

unfoldable pub ledger_view : Ledger → Machine
ledger_view l = view_of l.table l.book.ids l.book.days l.book.used

-- a command with a lent report buffer of this length
abbrev pub lent : ℕ → Command → Call
lent room k = record { command = k; room = room }

-- what a caller sees of bytes that hold one command or none: where they hold none, the answer is 1
unfoldable pub outcome_of : Machine → ℕ → List Command → Outcome
outcome_of m room [] = record { answer = 1; report = [] }
outcome_of m room (k ∷ ks) = outcome m (lent room k)

-- and the machine afterwards: where they hold none, it stays
unfoldable pub next_of : Machine → ℕ → List Command → Machine
next_of m room [] = m
next_of m room (k ∷ ks) = next m (lent room k)
