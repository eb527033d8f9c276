-- Where the program stands between its calls, and what is asked of whoever hands it on. Assumes nothing.
use Rattle.std.specs.Prelude.{◌≡◌, Bool, true, false, ◌⊎◌, Option, List, ◌++◌, ℕ, ◌+◌, ◌≤◌, length, take, drop}
use Rattle.std.specs.Io.KnownBytes.{Consumes, Appends, IsAtEnd}
use Rattle.rules.specs.Machine.{empty}
use Rattle.table.specs.declared.Table.{Table}
use Rattle.tally_kept.specs.Kept.{last_end}
use Rattle.tally_feed.specs.Feed.{Fed, FedIs, fed_of}
use Rattle.tally_feed.specs.Reads as Fed
use Rattle.tally_feed.specs.Reads.{begun, input_lines, Answered}
use Rattle.tally.specs.declared.progress.Progress as Code
use Rattle.tally.specs.declared.progress.Stage.{Stage}
use Rattle.tally.specs.declared.progress.Stage.TheVariants.{Reading, Ending, Done, Failed}
use Rattle.tally.specs.declared.progress.Finished.{Finished}

-- whether the input has ended
abbrev pub ended : Stage → Bool
ended Reading = false
ended Ending = true
ended Done = true
ended (Failed e) = e

-- whether there is nothing left to do
abbrev pub over : Stage → Bool
over Reading = false
over Ending = false
over Done = true
over (Failed e) = true

-- whether a read or a write failed
abbrev pub failed : Stage → Bool
failed Reading = false
failed Ending = false
failed Done = false
failed (Failed e) = true

-- what `feed` gave last; how many bytes were read behind what it left; whether the input has ended; whether there is nothing left to do; whether a read or a
-- write failed; how many reads may still be made
pub record Progress : Type 0 where
  pub fed : Fed
  pub n : ℕ
  pub ended : Bool
  pub over : Bool
  pub failed : Bool
  pub reads : ℕ

-- where the program stands, the book's arrays left out
abbrev pub progress_of : Code.Progress → Progress
progress_of p = record { fed = fed_of p.ledger p.counts; n = p.n; ended = ended p.stage; over = over p.stage; failed = failed p.stage; reads = p.reads }

-- ---- the states, by equation

-- before the first read
abbrev pub started : Table → ℕ → Progress
started t used = record {
  fed = record { table = t; used = used; left = 0; read = 0; waiting = 0 };
  n = 0;
  ended = false;
  over = false;
  failed = false;
  reads = 18446744073709551615;
}

-- once the answers that waited are written
abbrev pub written : Progress → Progress
written p = record {
  fed = record { table = p.fed.table; used = p.fed.used; left = p.fed.left; read = p.fed.read; waiting = 0 };
  n = p.n;
  ended = p.ended;
  over = p.over;
  failed = p.failed;
  reads = p.reads;
}

-- where a read or a write failed
abbrev pub broken : Progress → Progress
broken p = record { fed = p.fed; n = 0; ended = p.ended; over = true; failed = true; reads = p.reads }

-- where the input has ended and nothing is left
abbrev pub done : Progress → Progress
done p = record { fed = p.fed; n = 0; ended = true; over = true; failed = p.failed; reads = p.reads }

-- ---- what is asked

-- bytes are an input with the end that its last line lacks
pub record Closed (bytes : List ℕ) : Type 0 where
  pub input : List ℕ
  pub is : bytes ≡ input ++ last_end (length (begun input))

-- the record and what stands in front of the buffer are what reads from the fresh record on left, no answer waits to be written, and n bytes were read behind
-- them; once the input has ended, they close it
pub record Ready (p : Progress) (ids days buf : List ℕ) : Type 0 where
  pub fed : Fed.Ready empty p.fed ids days buf
  pub within : p.fed.left + p.n ≤ length buf
  pub closed : p.ended ≡ true → Closed (fed.input ++ take p.n (drop p.fed.left buf))

-- what was read is fed, every byte of it, and nothing else moves
pub record PlayedIs (p : Progress) (ids days buf out : List ℕ) (r : Progress) (ids' days' buf' out' : List ℕ) : Type 0 where
  pub fed : FedIs p.fed ids days buf p.n out r.fed ids' days' buf' out'
  pub rest : r ≡ record { fed = r.fed; n = 0; ended = p.ended; over = p.over; failed = p.failed; reads = p.reads }

-- p and the answer buffer are what a call of `play` left
pub record Given (p : Progress) (out' : List ℕ) : Type 0 where
  pub before : Progress
  pub ids : List ℕ
  pub days : List ℕ
  pub buf : List ℕ
  pub out : List ℕ
  pub ids' : List ℕ
  pub days' : List ℕ
  pub buf' : List ℕ
  pub ready : Ready before ids days buf
  pub played : PlayedIs before ids days buf out p ids' days' buf' out'

-- bytes are all the answers that wait there
pub record Waiting (p : Progress) (answers : List ℕ) : Type 0 where
  pub out : List ℕ
  pub given : Given p out
  pub is : answers ≡ take p.fed.waiting out

-- they are written, as far as it is known what the output holds, or the write failed
pub data PutIs (p : Progress) (out : List ℕ) (held held' : Option (List ℕ)) (r : Progress) : Type 0 where
  wrote : r ≡ written p → Appends held held' (take p.fed.waiting out) → PutIs p out held held' r
  unwritten : r ≡ broken p → PutIs p out held held' r

-- a record is that of an input whose lines are all answered, from the fresh record on
abbrev pub AllAnswered : Table → ℕ → Type 0
AllAnswered t used = (ids : List ℕ) × (days : List ℕ) × (input : List ℕ) × (answers : List ℕ) × Answered empty (input_lines input) answers t ids days used

-- nothing is left to do: a read or a write failed, or all lines of the input are answered
pub record Over (p : Progress) : Type 0 where
  pub over : p.over ≡ true
  pub why : (p.failed ≡ true) ⊎ AllAnswered p.fed.table p.fed.used

-- so it is at the program's end
abbrev pub Served : Finished → Type 0
Served r = (failed r.stage ≡ true) ⊎ AllAnswered r.ledger.table r.ledger.book.used

-- a record is that of an input that was read to its end, and the answers to all its lines are what was written: of what the input had left and the output held
-- before and after, where that is known
pub record WholeAnswered (left left' held held' : Option (List ℕ)) (t : Table) (used : ℕ) : Type 0 where
  pub ids : List ℕ
  pub days : List ℕ
  pub input : List ℕ
  pub answers : List ℕ
  pub answered : Answered empty (input_lines input) answers t ids days used
  pub read : Consumes left left' input
  pub at_end : IsAtEnd left'
  pub written : Appends held held' answers

-- so it is at the end: a read or a write failed, or the whole input is answered
abbrev pub WholeServed : Option (List ℕ) → Option (List ℕ) → Option (List ℕ) → Option (List ℕ) → Finished → Type 0
WholeServed left left' held held' r = (failed r.stage ≡ true) ⊎ WholeAnswered left left' held held' r.ledger.table r.ledger.book.used
