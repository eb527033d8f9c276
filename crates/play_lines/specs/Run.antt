-- What a run over a text does. Assumes nothing.
use Rattle.std.specs.Prelude.{◌≡◌, ◌⊎◌, List, [], ◌++◌, ℕ, ◌+◌, ◌-◌, ◌≤◌, ◌<◌, length, take, drop}
use Rattle.octets.specs.Octets.{write}
use Rattle.rules.specs.Machine.{Machine}
use Rattle.table.specs.declared.Table.{Table}
use Rattle.ledger.specs.Promise.{Sound}
use Rattle.ledger.specs.View.{view_of}
use Rattle.lines.specs.Text.{whole_lines, joined, answer_room}
use Rattle.ledger.specs.declared.Ledger.{Ledger}
use Rattle.play_lines.specs.declared.Extent.{Extent}
use Rattle.play_lines.specs.Lines.{played, printed_lines, fitting, overwritten, book_ids, book_days}

-- lines were played from the machine m on: with their ends they are what was read; they are the text's first whole lines, and the others are behind
-- them; the record is the machine after them, and so is each byte of the lent book; their answer lines are written over the buffer from byte 0 on, and its
-- other bytes stay
pub record Passed (m : Machine) (ids₀ days₀ input out : List ℕ) (t : Table) (ids days : List ℕ) (used read written : ℕ) (out' : List ℕ) : Type 0 where
  pub lines : List (List ℕ)
  pub sound : Sound t ids days used
  pub within : read ≤ length input
  pub text : joined lines ≡ take read input
  pub rest : whole_lines input ≡ lines ++ whole_lines (drop read input)
  pub chosen : fitting m (length out) (whole_lines input) ≡ lines ++ fitting (view_of t ids days used) (length out - written) (whole_lines (drop read input))
  pub state : view_of t ids days used ≡ played m lines
  pub ids_are : ids ≡ overwritten book_ids m lines ids₀
  pub days_are : days ≡ overwritten book_days m lines days₀
  pub room : written ≤ length out
  pub bytes : out' ≡ write out 0 (printed_lines m lines)
  pub long : length (printed_lines m lines) ≡ written

-- what a run leaves: the table, how many places of the book are used, how much of the text was played, and how much was written
pub record Ran : Type 0 where
  pub table : Table
  pub used : ℕ
  pub read : ℕ
  pub written : ℕ

-- the lines played are the whole lines in order, while the longest answer line has room behind what is written
pub record RanIs (t : Table) (ids days : List ℕ) (used : ℕ) (input out : List ℕ) (r : Ran) (ids' days' out' : List ℕ) : Type 0 where
  pub passed : Passed (view_of t ids days used) ids days input out r.table ids' days' r.used r.read r.written out'
  pub which : passed.lines ≡ fitting (view_of t ids days used) (length out) (whole_lines input)
  pub stop : (whole_lines (drop r.read input) ≡ []) ⊎ (length out < r.written + answer_room)

-- the same of a run that is lent the whole record and leaves the record u
abbrev pub RunIs : Ledger → List ℕ → List ℕ → Extent → Ledger → List ℕ → Type 0
RunIs l input out e u out' =
    RanIs l.table l.book.ids l.book.days l.book.used input out (record { table = u.table; used = u.book.used; read = e.read; written = e.written }) u.book.ids u.book.days out'
