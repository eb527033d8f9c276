use native.Mathlib.Omega.{arith}
use mathlib.Core.Path.{refl}
use Rattle.rules.specs.Command.{Mark, well_formed}
use Rattle.rules.specs.Machine.{checks, first_failure, effect}
use Rattle.rules.proofs.Ledger.{quiet_mark}
use Rattle.table.specs.Inside.{table_of}
use Rattle.table.specs.View.{machine_of}
use Rattle.table.proofs.Stored.{Stores, changed_found}
use Rattle.bank_checks.specs.Parts.{bank_call_checks}
use Rattle.call_letters.proofs.mark_bank.Goals.{After-with_mark}
use Rattle.call_letters.proofs.mark_bank.Goals as goal

taken : (c : After-with_mark) → Stores (Mark c.args.code) c.args.t.now (table_of c.t.inside) c.in_ok-place.place c.with_mark.result
unfolding checks bank_call_checks well_formed machine_of first_failure effect
taken c =
    changed_found c.t.view_is c.t.invariant c.in_ok-place.ensures.place _ _ quiet_mark.tame quiet_mark.turnovers_kept
    c.with_mark.ensures (grind arith) refl

pub invariant_of-t : goal.invariant_of-t
invariant_of-t c = (taken (goal.at.invariant_of-t c).After-with_mark).0

pub returns : goal.returns
returns c = (taken (goal.at.returns c).After-with_mark).1
