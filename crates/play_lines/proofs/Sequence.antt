-- Lines behind lines: the machine after them, their outcomes, what is printed for them. Assumes nothing.
use mathlib.Core.Path.{◌≡◌, refl, sym, ap, ap₂, ◌∙◌}
use native.Mathlib.Omega.{arith}
use lib.ListN.{length}
use Rattle.lines.proofs.OneLine.{printed_one}
use mathlib.Core.List.{List, [], ◌∷◌, ◌++◌, append_assoc, append-nil}
use Prim.Native.Nat.{ℕ}
use Rattle.octets.specs.Octets.{write}
use Rattle.rules.specs.Machine.{Machine, Outcome}
use Rattle.lines.specs.Text.{printed}
use Rattle.play_lines.specs.Lines.{line_outcome, line_next, played, line_outcomes, printed_all, printed_lines, overwritten}

pub played_append : (m : Machine) (ls more : List (List ℕ)) → played m (ls ++ more) ≡ played (played m ls) more
unfolding played
played_append m [] more = refl
played_append m (l ∷ ls) more = played_append (line_next m l) ls more

-- one line more over an array of the lent book
pub overwritten_snoc : (said : Machine → List ℕ) (m : Machine) (ls : List (List ℕ)) (l array : List ℕ)
    → overwritten said m (ls ++ (l ∷ [])) array ≡ write (overwritten said m ls array) 0 (said (line_next (played m ls) l))
unfolding overwritten played
overwritten_snoc said m [] l array = refl
overwritten_snoc said m (k ∷ ls) l array = overwritten_snoc said (line_next m k) ls l (write array 0 (said (line_next m k)))

pub outcomes_append : (m : Machine) (ls more : List (List ℕ)) → line_outcomes m (ls ++ more) ≡ line_outcomes m ls ++ line_outcomes (played m ls) more
unfolding played line_outcomes
outcomes_append m [] more = refl
outcomes_append m (l ∷ ls) more = ap (λ os. line_outcome m l ∷ os) (outcomes_append (line_next m l) ls more)

all_append : (os more : List Outcome) → printed_all (os ++ more) ≡ printed_all os ++ printed_all more
unfolding printed_all
all_append [] more = refl
all_append (o ∷ os) more =
    ap (λ bs. printed o.answer o.report ++ bs) (all_append os more) ∙ sym (append_assoc (printed o.answer o.report) (printed_all os) (printed_all more))

-- the answer lines of outcomes say these outcomes and no others: no line is empty, and each ends at its first line end
pub all_one : (os ps : List Outcome) → printed_all os ≡ printed_all ps → os ≡ ps
unfolding printed_all printed
all_one [] [] e = refl
all_one [] (p ∷ ps) e = absurd (omega (arith, ap (λ (l : List ℕ). length l) e))
all_one (o ∷ os) [] e = absurd (omega (arith, ap (λ (l : List ℕ). length l) e))
all_one (o ∷ os) (p ∷ ps) e =
    let h = printed_one o.answer p.answer o.report p.report (printed_all os) (printed_all ps) e in
    ap₂ (λ (q : Outcome) (l : List Outcome). q ∷ l) (ap₂ (λ (a : ℕ) (r : List ℕ). record { answer = a; report = r }) h.0 h.1) (all_one os ps h.2)

pub printed_append : (m : Machine) (ls more : List (List ℕ)) → printed_lines m (ls ++ more) ≡ printed_lines m ls ++ printed_lines (played m ls) more
unfolding printed_lines
printed_append m ls more = ap printed_all (outcomes_append m ls more) ∙ all_append (line_outcomes m ls) (line_outcomes (played m ls) more)

-- one line more
pub played_snoc : (m : Machine) (ls : List (List ℕ)) (l : List ℕ) → played m (ls ++ (l ∷ [])) ≡ line_next (played m ls) l
unfolding played
played_snoc m ls l = played_append m ls (l ∷ [])

pub printed_snoc : (m : Machine) (ls : List (List ℕ)) (l : List ℕ) (o : Outcome) → o ≡ line_outcome (played m ls) l
    → printed_lines m (ls ++ (l ∷ [])) ≡ printed_lines m ls ++ printed o.answer o.report
unfolding printed_lines printed_all line_outcomes
printed_snoc m ls l o e =
    printed_append m ls (l ∷ [])
    ∙ ap (λ (p : Outcome). printed_all (line_outcomes m ls) ++ (printed p.answer p.report ++ [])) (sym e)
    ∙ ap (λ bs. printed_all (line_outcomes m ls) ++ bs) (append-nil (printed o.answer o.report))
