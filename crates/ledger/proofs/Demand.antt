-- The program's calls do what the history machine does, so demand 3 holds of every list of them. Assumes nothing.
use mathlib.Core.Path.{sym, ap, ap₂, ◌∙◌, subst, subst₂}
use Rattle.rules.specs.Demand.{DemandFrom}
use Rattle.rules.specs.Machine.{next, outcome}
use Rattle.rules.proofs.Simulation.{Simulates, simulated}
use Rattle.ledger.specs.Program.{Step, DemandOfCalls}
use Rattle.ledger.specs.Promise.{SoundLedger, Sound}
use Rattle.ledger.specs.View.{ledger_view, view_of, lent, outcome_of, next_of}

simulates : Simulates ledger_view SoundLedger Step
unfolding ledger_view outcome_of next_of
simulates = record {
  outcome_is = λ {s} {t} {k} g p. p.outcome_is ∙ p.played.says ∙ ap (λ n. outcome (ledger_view s) (lent n k.command)) p.length_is;
  next_is = λ {s} {t} {k} g p.
      ap₂ (λ u n. view_of u t.book.ids t.book.days n) p.table_is p.used_is
      ∙ p.played.moves
      ∙ ap (λ n. next (ledger_view s) (lent n k.command)) p.length_is;
  good = λ {s} {t} {k} g p. subst₂ (λ u n. Sound u t.book.ids t.book.days n) (sym p.table_is) (sym p.used_is) (p.played.sound g);
}

pub demand_of_calls : DemandOfCalls
unfolding ledger_view
demand_of_calls s l u ks os g e p = subst (λ m. DemandFrom m ks os (ledger_view u)) e (simulated ledger_view SoundLedger Step simulates g g.inv p)
