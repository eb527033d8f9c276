-- Lines that hold the same commands, line by line, are answered alike and leave the same machine. Assumes nothing.
use mathlib.Core.Path.{◌≡◌, refl, sym, ap, ◌∙◌}
use mathlib.Core.List.{List, [], ◌∷◌, map}
use Prim.Native.Nat.{ℕ}
use Rattle.rules.specs.Command.{Command}
use Rattle.rules.specs.Machine.{Machine, Outcome}
use Rattle.table.specs.declared.Table.{Table}
use Rattle.ledger.specs.View.{outcome_of, next_of}
use Rattle.play_lines.specs.Lines.{commands_in, line_outcome, line_next, played, line_outcomes, printed_all, printed_lines}
use Rattle.play_lines.specs.Program.{Reached}
use Rattle.play_lines.proofs.Theorem.{reached_demand}
use Rattle.tally_feed.specs.Reads.{Answered}
use Rattle.lines.specs.Text.{report_room}

-- what each line holds
abbrev pub commands_each : List (List ℕ) → List (List Command)
commands_each ls = map commands_in ls

next_all : Machine → List (List Command) → Machine
next_all m [] = m
next_all m (cs ∷ css) = next_all (next_of m report_room cs) css

outcomes_all : Machine → List (List Command) → List Outcome
outcomes_all m [] = []
outcomes_all m (cs ∷ css) = outcome_of m report_room cs ∷ outcomes_all (next_of m report_room cs) css

played_each : (m : Machine) (ls : List (List ℕ)) → played m ls ≡ next_all m (commands_each ls)
unfolding played line_next next_all
played_each m [] = refl
played_each m (l ∷ ls) = played_each (next_of m report_room (commands_in l)) ls

outcomes_each : (m : Machine) (ls : List (List ℕ)) → line_outcomes m ls ≡ outcomes_all m (commands_each ls)
unfolding line_outcomes line_outcome line_next outcomes_all
outcomes_each m [] = refl
outcomes_each m (l ∷ ls) = ap (λ os. outcome_of m report_room (commands_in l) ∷ os) (outcomes_each (next_of m report_room (commands_in l)) ls)

-- lines answered with the answer lines of others
pub answered : (m : Machine) (lines input : List (List ℕ)) (bytes : List ℕ) {t : Table} {ids days : List ℕ} {used : ℕ} → commands_each lines ≡ commands_each input → Reached m lines t ids days used
    → bytes ≡ printed_lines m lines → Answered m input bytes t ids days used
unfolding printed_lines
answered m lines input bytes {t} {ids} {days} {used} e q p =
    let same : played m lines ≡ played m input = played_each m lines ∙ ap (next_all m) e ∙ sym (played_each m input) in
    let outs : line_outcomes m lines ≡ line_outcomes m input = outcomes_each m lines ∙ ap (outcomes_all m) e ∙ sym (outcomes_each m input) in
    let reached : Reached m input t ids days used = record { start_sound = q.start_sound; sound = q.sound; state = q.state ∙ same } in
    let all : bytes ≡ printed_all (line_outcomes m input) = p ∙ ap printed_all outs in
    record {
      reached = reached;
      printed = all;
      demanded = λ os h. reached_demand reached os (h ∙ all);
    }
