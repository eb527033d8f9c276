-- What a record is, and what every call on it promises. Assumes nothing.
use Rattle.std.specs.Prelude.{◌≡◌, List, ℕ, ◌≤◌, length, take, Result, Ok, Err}
use Rattle.octets.specs.Octets.{write}
use Rattle.rules.specs.Command.{Command}
use Rattle.rules.specs.Invariant.{Invariant}
use Rattle.rules.specs.Machine.{answer, next}
use Rattle.table.specs.declared.Table.{Table}
use Rattle.table.specs.Promise.{OwnCodes, Beyond}
use Rattle.table.specs.View.{accounts_of}
use Rattle.refusal.specs.declared.Refusal.{Refusal}
use Rattle.refusal.specs.Answer.{answer_of}
use Rattle.book.specs.Entries.{Lengths, Behind}
use Rattle.ledger.specs.declared.Ledger.{Ledger}
use Rattle.ledger.specs.View.{view_of, lent, outcome_of, next_of}

-- what holds of every record of the program
pub record Sound (t : Table) (ids days : List ℕ) (used : ℕ) : Type 0 where
  pub own : OwnCodes t.codes t.count (accounts_of t)
  pub few : used ≤ 1024
  pub lengths : Lengths ids days
  pub inv : Invariant (view_of t ids days used)

abbrev pub SoundLedger : Ledger → Type 0
SoundLedger l = Sound l.table l.book.ids l.book.days l.book.used

-- the very same table and book
pub record Same (t : Table) (ids days : List ℕ) (used : ℕ) (t' : Table) (ids' days' : List ℕ) (used' : ℕ) : Type 0 where
  pub table_same : t' ≡ t
  pub ids_same : ids' ≡ ids
  pub days_same : days' ≡ days
  pub used_same : used' ≡ used

-- what a call answers, the table afterwards, and how many places of the book are used
pub record Noted : Type 0 where
  pub answer : ℕ
  pub table : Table
  pub used : ℕ

-- the same with the length of the report that was written
pub record Stepped : Type 0 where
  pub answer : ℕ
  pub table : Table
  pub used : ℕ
  pub report_len : ℕ

-- of a call that has no report: the answer is the history machine's, the record afterwards is its next, a refusal leaves the very same record, and a sound
-- record stays sound. The used places of the book hold what the next record says, byte for byte, and those behind them stay, as do the places of the table
-- behind those then in use
pub record Settled (k : Command) (t : Table) (ids days : List ℕ) (used : ℕ) (r : Noted) (ids' days' : List ℕ) : Type 0 where
  pub says : r.answer ≡ answer (view_of t ids days used) (lent 0 k)
  pub moves : view_of r.table ids' days' r.used ≡ next (view_of t ids days used) (lent 0 k)
  pub refused : ¬ (r.answer ≡ 0) → Same t ids days used r.table ids' days' r.used
  pub behind : Behind ids days ids' days' r.used
  pub beyond : Beyond t r.table
  pub sound : Sound t ids days used → Sound r.table ids' days' r.used

-- of every call, and of bytes that hold one command or none: answer and report are the history machine's, the record afterwards is its next, a refusal
-- leaves the very same record, and a sound record stays sound. Book and table are as with `Settled`; the report stands in the lent buffer from byte 0 on, and the bytes
-- past it stay
pub record Played (cs : List Command) (t : Table) (ids days : List ℕ) (used : ℕ) (report : List ℕ) (r : Stepped) (ids' days' report' : List ℕ) : Type 0 where
  pub says : record { answer = r.answer; report = take r.report_len report' } ≡ outcome_of (view_of t ids days used) (length report) cs
  pub moves : view_of r.table ids' days' r.used ≡ next_of (view_of t ids days used) (length report) cs
  pub bytes : report' ≡ write report 0 (take r.report_len report')
  pub fits : r.report_len ≤ length report
  pub refused : ¬ (r.answer ≡ 0) → Same t ids days used r.table ids' days' r.used
  pub behind : Behind ids days ids' days' r.used
  pub beyond : Beyond t r.table
  pub sound : Sound t ids days used → Sound r.table ids' days' r.used

-- ---- the same of a call that is lent the whole record, gives the result r and leaves the record u

abbrev pub Settles : {X : Type 0} → Command → Ledger → Result X Refusal → Ledger → Type 0
Settles k l r u =
    Settled k l.table l.book.ids l.book.days l.book.used (record { answer = answer_of r; table = u.table; used = u.book.used }) u.book.ids u.book.days

-- the length of the report: a refusal has none
abbrev pub length_of : Result ℕ Refusal → ℕ
length_of (Ok n) = n
length_of (Err e) = 0

abbrev pub Reports : List Command → Ledger → List ℕ → Result ℕ Refusal → Ledger → List ℕ → Type 0
Reports cs l report r u report' =
    Played cs l.table l.book.ids l.book.days l.book.used report (record { answer = answer_of r; table = u.table; used = u.book.used; report_len = length_of r }) u.book.ids u.book.days report'
