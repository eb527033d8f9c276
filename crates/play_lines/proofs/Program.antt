-- Runs one after the other are the history machine over all their lines. Assumes nothing.
use mathlib.Core.Path.{◌≡◌, refl, sym, ap, ap₂, ◌∙◌, subst}
use mathlib.Core.List.{List, [], ◌++◌}
use Prim.Native.Nat.{ℕ, ◌≤◌}
use native.Mathlib.Omega.{arith}
use lib.ListN.{length, take}
use Rattle.octets.specs.Octets.{part, write}
use Rattle.octets.proofs.Places.{write_part}
use Rattle.rules.specs.Invariant.{Invariant}
use Rattle.rules.specs.Machine.{Machine}
use Rattle.table.specs.declared.Table.{Table}
use Rattle.ledger.specs.declared.Ledger.{Ledger}
use Rattle.ledger.specs.Promise.{Sound, SoundLedger}
use Rattle.ledger.specs.View.{view_of, ledger_view}
use Rattle.play_lines.specs.Lines.{played, line_outcomes, printed_all, printed_lines}
use Rattle.play_lines.specs.Run.{Ran, RanIs}
use Rattle.play_lines.specs.Program.{Reached, Runs, start, then}
use Rattle.play_lines.proofs.Sequence.{played_append, printed_append}

-- a sound record that views as the machine is reached from it by no line
pub start_reached : {s : Machine} (l : Ledger) → SoundLedger l → ledger_view l ≡ s → Reached s [] l.table l.book.ids l.book.days l.book.used
unfolding played ledger_view
start_reached l g e = record { start_sound = subst Invariant e g.inv; sound = g; state = e }

-- lines played on what was reached
pub reached_on : (s : Machine) (ls more : List (List ℕ)) (t u : Table) (ids days ids' days' : List ℕ) (used used' : ℕ) → Reached s ls t ids days used → Sound u ids' days' used'
    → view_of u ids' days' used' ≡ played (view_of t ids days used) more → Reached s (ls ++ more) u ids' days' used'
reached_on s ls more t u ids days ids' days' used used' q g e =
    record { start_sound = q.start_sound; sound = g; state = e ∙ ap (λ m. played m more) q.state ∙ sym (played_append s ls more) }

-- what is written from byte 0 on is read back
pub front : (out bs : List ℕ) → length bs ≤ length out → take (length bs) (write out 0 bs) ≡ bs
unfolding part
front out bs h = write_part out 0 bs (omega arith)

module _ {t : Table} {ids days : List ℕ} {used : ℕ} {input out ids' days' out' : List ℕ} {r : Ran} (p : RanIs t ids days used input out r ids' days' out') where
  -- what a run wrote
  pub wrote : take r.written out' ≡ printed_lines (view_of t ids days used) p.passed.lines
  wrote =
      ap₂ (λ n o. take n o) (sym p.passed.long) p.passed.bytes
      ∙ front out (printed_lines (view_of t ids days used) p.passed.lines) (omega (arith, p.passed.long, p.passed.room))

  pub run_reached : {s : Machine} (ls : List (List ℕ)) → Reached s ls t ids days used → Reached s (ls ++ p.passed.lines) r.table ids' days' r.used
  run_reached {s} ls q = reached_on s ls p.passed.lines t r.table ids days ids' days' used r.used q p.passed.sound p.passed.state

-- ---- any number of runs

module _ {s : Machine} where
  pub runs_reached : {t : Table} {ids days : List ℕ} {used : ℕ} {ls : List (List ℕ)} {bytes : List ℕ} → Runs s t ids days used ls bytes → Reached s ls t ids days used
  runs_reached (start {l} g e) = start_reached l g e
  runs_reached (then {ls = ls} q p) = run_reached p ls (runs_reached q)

  pub runs_printed : {t : Table} {ids days : List ℕ} {used : ℕ} {ls : List (List ℕ)} {bytes : List ℕ} → Runs s t ids days used ls bytes → bytes ≡ printed_lines s ls
  unfolding printed_lines printed_all line_outcomes
  runs_printed (start g e) = refl
  runs_printed (then {ls = ls} q p) =
      ap₂ ◌++◌ (runs_printed q) (wrote p ∙ ap (λ m. printed_lines m p.passed.lines) (runs_reached q).state) ∙ sym (printed_append s ls p.passed.lines)
