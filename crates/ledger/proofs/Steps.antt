-- The calls' contracts make steps. Assumes nothing.
use mathlib.Core.Path.{refl, subst}
use mathlib.Core.List.{List, [], ◌∷◌}
use Prim.Native.Nat.{ℕ}
use lib.Dec.{T}
use lib.ListN.{length, take}
use Rattle.octets.proofs.Places.{take_none}
use Rattle.rules.specs.Command.{Command}
use Rattle.ledger.specs.declared.Ledger.{Ledger}
use Rattle.ledger.specs.Promise.{Noted, Stepped, Settled, Played}
use Rattle.ledger.specs.Program.{Step}
use Rattle.ledger.specs.View.{lent}
use Rattle.ledger.specs.Calls.{silent, CallsAreSteps}
use Rattle.ledger.proofs.Reaches.{plain_silent}
use Rattle.ledger.proofs.Laws.{settled_table, played_silent}

by_played : (k : Command) (l : Ledger) (report : List ℕ) (r : Stepped) (ids' days' report' : List ℕ) → Played (k ∷ []) l.table l.book.ids l.book.days l.book.used report r ids' days' report'
    → Step l (lent (length report) k) (record { answer = r.answer; report = take r.report_len report' }) (record { table = r.table; book = record { ids = ids'; days = days'; used = r.used } })
by_played k l report r ids' days' report' p = record {
  lent_report = report;
  left_report = report';
  length_is = refl;
  result = r;
  table_is = refl;
  used_is = refl;
  played = p;
  outcome_is = refl;
}

by_settled : (k : Command) (l : Ledger) (report : List ℕ) (r : Noted) (ids' days' : List ℕ) → T (silent k) → Settled k l.table l.book.ids l.book.days l.book.used r ids' days'
    → Step l (lent (length report) k) (record { answer = r.answer; report = [] }) (record { table = r.table; book = record { ids = ids'; days = days'; used = r.used } })
by_settled k l report r ids' days' t s =
    subst (λ bs. Step l (lent (length report) k) (record { answer = r.answer; report = bs }) (record { table = r.table; book = record { ids = ids'; days = days'; used = r.used } })) (take_none report)
    (by_played k l report _ ids' days' report (played_silent k l.table l.book.ids l.book.days l.book.used report r ids' days' t s))

pub calls_are_steps : CallsAreSteps
calls_are_steps = record {
  called = λ k l report r p c. by_settled k l report _ _ _ (plain_silent k p) (settled_table k l.table l.book.ids l.book.days l.book.used r p c);
  settled = by_settled;
  asked = λ k l report answer used' len ids' days' report' p. by_played k l report _ ids' days' report' p;
  played = by_played;
}
