-- Demand 3 of paper 01 for lines: whatever lines are played from a sound record on, in whatever runs, the answers and the record are the history machine's over
-- the calls that the lines are. Assumes nothing.
use mathlib.Core.Path.{◌≡◌, refl, sym, ap, ◌∙◌, subst₂}
use mathlib.Core.List.{List, [], ◌∷◌}
use Prim.Native.Nat.{ℕ}
use Rattle.rules.specs.Command.{Command}
use Rattle.rules.specs.Demand.{DemandFrom}
use Rattle.rules.specs.Invariant.{Invariant}
use Rattle.rules.specs.Machine as Machine
use Rattle.rules.specs.Machine.{Machine, next, Outcome, outcome, outcomes}
use Rattle.rules.proofs.Simulation.{demand_from}
use Rattle.table.specs.declared.Table.{Table}
use Rattle.ledger.specs.View.{view_of, lent, outcome_of, next_of}
use Rattle.play_lines.specs.Lines.{commands_in, line_outcome, line_next, played, line_outcomes, printed_all, printed_lines, call_first, calls_in, outcome_first, of_calls}
use Rattle.play_lines.specs.Program.{Reached, DemandOfRuns}
use Rattle.play_lines.proofs.Sequence.{all_one}
use Rattle.play_lines.proofs.Program.{runs_reached, runs_printed}
use Rattle.lines.specs.Text.{report_room}

-- ---- lines are calls

pub played_run : (m : Machine) (ls : List (List ℕ)) → played m ls ≡ Machine.run m (calls_in ls)
unfolding played calls_in line_next next_of Machine.run
played_run m [] = refl
played_run m (l ∷ ls) = go (commands_in l) (λ n. played_run n ls)
  where
    go : (cs : List Command) → ((n : Machine) → played n ls ≡ Machine.run n (calls_in ls)) → played (next_of m report_room cs) ls ≡ Machine.run m (call_first cs (calls_in ls))
    go [] h = h m
    go (k ∷ cs) h = h (next m (lent report_room k))

pub outcomes_run : (m : Machine) (ls : List (List ℕ)) → of_calls ls (line_outcomes m ls) ≡ outcomes m (calls_in ls)
unfolding of_calls line_outcomes calls_in line_outcome line_next outcome_of next_of outcomes
outcomes_run m [] = refl
outcomes_run m (l ∷ ls) = go (commands_in l) (λ n. outcomes_run n ls)
  where
    go : (cs : List Command) → ((n : Machine) → of_calls ls (line_outcomes n ls) ≡ outcomes n (calls_in ls))
        → outcome_first cs (outcome_of m report_room cs) (of_calls ls (line_outcomes (next_of m report_room cs) ls)) ≡ outcomes m (call_first cs (calls_in ls))
    go [] h = h m
    go (k ∷ cs) h = ap (λ os. outcome m (lent report_room k) ∷ os) (h (next m (lent report_room k)))

-- ---- demand 3

lines_demand : (s : Machine) → Invariant s → (ls : List (List ℕ)) → DemandFrom s (calls_in ls) (of_calls ls (line_outcomes s ls)) (played s ls)
lines_demand s v ls = subst₂ (λ os m. DemandFrom s (calls_in ls) os m) (sym (outcomes_run s ls)) (sym (played_run s ls)) (demand_from s v (calls_in ls))

-- of every record that lines reach, and of whatever outcomes the machine's answer lines say
pub reached_demand : {s : Machine} {ls : List (List ℕ)} {t : Table} {ids days : List ℕ} {used : ℕ} → Reached s ls t ids days used
    → (os : List Outcome) → printed_all os ≡ printed_lines s ls → DemandFrom s (calls_in ls) (of_calls ls os) (view_of t ids days used)
unfolding printed_lines
reached_demand {s} {ls} q os e =
    subst₂ (λ ps m. DemandFrom s (calls_in ls) (of_calls ls ps) m) (sym (all_one os (line_outcomes s ls) e)) (sym q.state) (lines_demand s q.start_sound ls)

-- any number of runs from a sound record on: demand 3 of all lines that they played, and what they wrote are the machine's answers and reports
pub runs_demand : DemandOfRuns
runs_demand s t ids days used ls bytes q = (runs_printed q, λ os e. reached_demand (runs_reached q) os (e ∙ runs_printed q))
