-- Lines played one after the other (paper 01, "Frames", of `tally`): the command of a line, its outcome, and the calls that lines are. Assumes nothing.
use Rattle.std.specs.Prelude.{List, [], ◌∷◌, ◌++◌, map, cond, ℕ, ◌-◌, leb, length}
use Rattle.octets.specs.Octets.{write}
use Rattle.rules.specs.Command.{Command, Call}
use Rattle.rules.specs.Machine.{Machine, Outcome}
use Rattle.frame.specs.Frame.{commands_of, line_frame}
use Rattle.ledger.specs.Bytes.{id_bytes}
use Rattle.ledger.specs.View.{lent, outcome_of, next_of}
use Rattle.lines.specs.Text.{printed, answer_room, report_room}

-- the command that a line holds, or none
unfoldable pub commands_in : List ℕ → List Command
commands_in line = commands_of (line_frame line)

-- what a line is answered, and the machine after it; the report buffer has room for the longest report
unfoldable pub line_outcome : Machine → List ℕ → Outcome
line_outcome m line = outcome_of m report_room (commands_in line)

unfoldable pub line_next : Machine → List ℕ → Machine
line_next m line = next_of m report_room (commands_in line)

-- ---- lines in order

-- the machine after lines
unfoldable pub played : Machine → List (List ℕ) → Machine
played m [] = m
played m (l ∷ ls) = played (line_next m l) ls

-- an outcome for each line
unfoldable pub line_outcomes : Machine → List (List ℕ) → List Outcome
line_outcomes m [] = []
line_outcomes m (l ∷ ls) = line_outcome m l ∷ line_outcomes (line_next m l) ls

-- the answer line of each outcome, one behind the other
unfoldable pub printed_all : List Outcome → List ℕ
printed_all [] = []
printed_all (o ∷ os) = printed o.answer o.report ++ printed_all os

unfoldable pub printed_lines : Machine → List (List ℕ) → List ℕ
printed_lines m ls = printed_all (line_outcomes m ls)

-- the lines that are played one after the other while the longest answer line has room
unfoldable pub fitting : Machine → ℕ → List (List ℕ) → List (List ℕ)
fitting m room [] = []
fitting m room (l ∷ ls) =
    cond (leb answer_room room) (l ∷ fitting (line_next m l) (room - length (printed (line_outcome m l).answer (line_outcome m l).report)) ls) []

-- ---- the lent book

-- an array after lines: after each, what the machine says of it is written over it from byte 0 on, and its other bytes stay
unfoldable pub overwritten : (Machine → List ℕ) → Machine → List (List ℕ) → List ℕ → List ℕ
overwritten said m [] array = array
overwritten said m (l ∷ ls) array = overwritten said (line_next m l) ls (write array 0 (said (line_next m l)))

-- the ids in the book, and their days
abbrev pub book_ids : Machine → List ℕ
book_ids m = id_bytes m.ids

abbrev pub book_days : Machine → List ℕ
book_days m = map (λ e. e.day) m.ids

-- ---- lines as calls

-- the call that a line is, where it holds a command, in front of the calls behind it
abbrev pub call_first : List Command → List Call → List Call
call_first [] ks = ks
call_first (k ∷ cs) ks = lent report_room k ∷ ks

-- the calls that lines are, in order: one for each line that holds a command
unfoldable pub calls_in : List (List ℕ) → List Call
calls_in [] = []
calls_in (l ∷ ls) = call_first (commands_in l) (calls_in ls)

-- an outcome, where it is a command's, in front of those behind it
abbrev pub outcome_first : List Command → Outcome → List Outcome → List Outcome
outcome_first [] o os = os
outcome_first (k ∷ cs) o os = o ∷ os

-- of the outcomes of lines, those of the lines that hold a command
unfoldable pub of_calls : List (List ℕ) → List Outcome → List Outcome
of_calls [] os = []
of_calls (l ∷ ls) [] = []
of_calls (l ∷ ls) (o ∷ os) = outcome_first (commands_in l) o (of_calls ls os)
