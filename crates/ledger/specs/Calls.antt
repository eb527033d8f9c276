-- The calls' contracts are steps of `DemandOfCalls`. Each field below takes a contract as it stands in the call's `ensures` and gives the `Step`, so a
-- list of the program's calls is a list that the theorem speaks of. Assumes nothing.
use Rattle.std.specs.Prelude.{Bool, true, false, List, [], ◌∷◌, T, length, take, ℕ}
use Rattle.rules.specs.Command.{Command, Bank, Branch, Funding, Withdrawal, BankLimits, Payment, Change, Deletion, Query, Opening, Search, Letters, Mark}
use Rattle.table.specs.Promise.{Reply, Called}
use Rattle.ledger.specs.declared.Ledger.{Ledger}
use Rattle.ledger.specs.Promise.{Noted, Stepped, Settled, Played}
use Rattle.ledger.specs.Program.{Step}
use Rattle.ledger.specs.View.{lent}

-- ---- what a kind looks at beside its arguments

pub data Reach : Type 0 where
  OnTable : Reach  -- the table alone
  OnBook : Reach  -- the table and the book
  OnReport : Reach  -- both, and the report buffer that is lent with it

abbrev pub reach : Command → Reach
reach (Bank c) = OnTable
reach (Branch c o l p) = OnTable
reach (Funding c a) = OnTable
reach (Withdrawal c a) = OnTable
reach (BankLimits c l p) = OnTable
reach (Payment w s r a) = OnTable
reach (Change h is) = OnBook
reach (Deletion h i t) = OnBook
reach (Query h is) = OnReport
reach (Opening d) = OnBook
reach (Search h cs) = OnReport
reach (Letters c l) = OnTable
reach (Mark c) = OnTable

abbrev pub table_alone : Reach → Bool
table_alone OnTable = true
table_alone OnBook = false
table_alone OnReport = false

abbrev pub no_report : Reach → Bool
no_report OnTable = true
no_report OnBook = true
no_report OnReport = false

-- a kind that looks at the table alone: 01 to 06, 0c, 13
abbrev pub plain : Command → Bool
plain k = table_alone (reach k)

-- a kind that has no report, all but 09 and 0b
abbrev pub silent : Command → Bool
silent k = no_report (reach k)

-- ---- the contracts

pub record CallsAreSteps : Type 0 where
  -- 01 to 06, 0c, 13: `bank_open`, `branch_open`, `fund`, `withdraw`, `bank_limits`, `pay`, `set_letters`, `mark_bank`, lent the table alone
  pub called : (k : Command) (l : Ledger) (report : List ℕ) (r : Reply) → T (plain k) → Called k l.table r
      → Step l (lent (length report) k) (record { answer = r.answer; report = [] }) (record { table = r.table; book = l.book })
  -- 07, 08, 0a: `change`, `deletion`, `open`, lent the record
  pub settled : (k : Command) (l : Ledger) (report : List ℕ) (r : Noted) (ids' days' : List ℕ) → T (silent k) → Settled k l.table l.book.ids l.book.days l.book.used r ids' days'
      → Step l (lent (length report) k) (record { answer = r.answer; report = [] }) (record { table = r.table; book = record { ids = ids'; days = days'; used = r.used } })
  -- 09, 0b: `query`, `search`, lent the record and the report buffer; the table stays as it is
  pub asked : (k : Command) (l : Ledger) (report : List ℕ) (answer used' len : ℕ) (ids' days' report' : List ℕ)
      → Played (k ∷ []) l.table l.book.ids l.book.days l.book.used report (record { answer = answer; table = l.table; used = used'; report_len = len }) ids' days' report'
      → Step l (lent (length report) k) (record { answer = answer; report = take len report' }) (record { table = l.table; book = record { ids = ids'; days = days'; used = used' } })
  -- any kind: `step`, of bytes that hold the command
  pub played : (k : Command) (l : Ledger) (report : List ℕ) (r : Stepped) (ids' days' report' : List ℕ) → Played (k ∷ []) l.table l.book.ids l.book.days l.book.used report r ids' days' report'
      → Step l (lent (length report) k) (record { answer = r.answer; report = take r.report_len report' }) (record { table = r.table; book = record { ids = ids'; days = days'; used = r.used } })
