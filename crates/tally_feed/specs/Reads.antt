-- The input in however many reads, each call as the contract of `feed` says: the answer bytes of all calls, joined, are the history machine's answer lines to
-- the lines of the input, and demand 3 holds of what these bytes say. Assumes nothing.
use Rattle.std.specs.Prelude.{◌≡◌, List, [], ◌++◌, ℕ, ◌≤◌, length, take, drop}
use Rattle.rules.specs.Demand.{DemandFrom}
use Rattle.rules.specs.Machine.{Machine, Outcome}
use Rattle.table.specs.declared.Table.{Table}
use Rattle.ledger.specs.declared.Ledger.{Ledger}
use Rattle.ledger.specs.Promise.{SoundLedger}
use Rattle.ledger.specs.View.{view_of, ledger_view}
use Rattle.lines.specs.Text.{whole_lines, joined, answer_room}
use Rattle.tally_kept.specs.Kept.{last_end}
use Rattle.play_lines.specs.Lines.{printed_all, printed_lines, calls_in, of_calls}
use Rattle.play_lines.specs.Program.{Reached}
use Rattle.tally_feed.specs.Feed.{Fed, text_of, FedIs}

-- the begun line of a text: what stands behind its last line end
unfoldable pub begun : List ℕ → List ℕ
begun text = drop (length (joined (whole_lines text))) text

-- the lines of an input, of which the last may lack its end
unfoldable pub input_lines : List ℕ → List (List ℕ)
input_lines input = whole_lines (input ++ last_end (length (begun input)))

-- calls of `feed` from a sound record on that views as the machine m, as what `fresh` gives does as `empty`. At each, the text lent is what the one before it
-- left, and bytes of the input behind it, or none. Said of the record, of what is left, of all bytes of the input, and of the answer bytes of all calls
pub data Reads (m : Machine) : Table → List ℕ → List ℕ → ℕ → List ℕ → List ℕ → List ℕ → Type 0 where
  start : {l : Ledger} → SoundLedger l → ledger_view l ≡ m → Reads m l.table l.book.ids l.book.days l.book.used [] [] []
  next : {s : Fed} {ids days left input answers buf out ids' days' buf' out' : List ℕ} {n : ℕ} {r : Fed}
      → Reads m s.table ids days s.used left input answers → (bytes : List ℕ) → text_of s buf n ≡ left ++ bytes → answer_room ≤ length out
      → FedIs s ids days buf n out r ids' days' buf' out'
      → Reads m r.table ids' days' r.used (take r.left buf') (input ++ bytes) (answers ++ take r.waiting out')

-- bytes are the history machine's answer lines to lines; the record is the machine after them; and whoever reads answers and reports off the bytes reads those
-- of demand 3, from the machine m on
pub record Answered (m : Machine) (lines : List (List ℕ)) (bytes : List ℕ) (t : Table) (ids days : List ℕ) (used : ℕ) : Type 0 where
  pub reached : Reached m lines t ids days used
  pub printed : bytes ≡ printed_lines m lines
  pub demanded : (os : List Outcome) → printed_all os ≡ bytes → DemandFrom m (calls_in lines) (of_calls lines os) (view_of t ids days used)

-- however the input is cut into reads, once no whole line is left: all its whole lines are answered, and what is left is its begun line, cut
abbrev pub ReadsAnswered : Type 0
ReadsAnswered =
    (m : Machine) (t : Table) (ids days : List ℕ) (used : ℕ) (left input answers : List ℕ) → Reads m t ids days used left input answers → whole_lines left ≡ []
    → (Answered m (whole_lines input) answers t ids days used) × (take 1024 left ≡ take 1024 (begun input))

-- and once it has ended: the end that its last line lacks is read behind it, and all its lines are answered
abbrev pub InputAnswered : Type 0
InputAnswered =
    (m : Machine) (t : Table) (ids days : List ℕ) (used : ℕ) (left input answers : List ℕ) → Reads m t ids days used left (input ++ last_end (length (begun input))) answers
    → whole_lines left ≡ [] → Answered m (input_lines input) answers t ids days used

-- that end is the one that what is left lacks
abbrev pub SameEnd : Type 0
SameEnd =
    (m : Machine) (t : Table) (ids days : List ℕ) (used : ℕ) (left input answers : List ℕ) → Reads m t ids days used left input answers → whole_lines left ≡ []
    → last_end (length left) ≡ last_end (length (begun input))

-- and a call that plays nothing leaves no whole line
abbrev pub NoneLeft : Type 0
NoneLeft =
    (s : Fed) (ids days buf : List ℕ) (n : ℕ) (out : List ℕ) (r : Fed) (ids' days' buf' out' : List ℕ) → FedIs s ids days buf n out r ids' days' buf' out'
    → answer_room ≤ length out → r.read ≡ 0 → whole_lines (take r.left buf') ≡ []

-- ---- what the program hands on

-- the record and what stands in front of the buffer are what reads left, from the machine m on, and no answer waits to be written
pub record Ready (m : Machine) (s : Fed) (ids days buf : List ℕ) : Type 0 where
  pub input : List ℕ
  pub answers : List ℕ
  pub reads : Reads m s.table ids days s.used (take s.left buf) input answers
  pub none_waits : s.waiting ≡ 0

-- from whatever machine on
abbrev pub SomeReady : Fed → List ℕ → List ℕ → List ℕ → Type 0
SomeReady s ids days buf = (m : Machine) × Ready m s ids days buf
