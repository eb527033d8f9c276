use native.Mathlib.Omega.{arith}
use borrow.Author.Rules.{rules}
use mathlib.Core.Path.{refl}
use Rattle.rules.specs.Command.{Letters, well_formed}
use Rattle.rules.specs.Machine.{checks, first_failure, effect}
use Rattle.rules.proofs.Ledger.{quiet_letters}
use Rattle.table.specs.Inside.{table_of}
use Rattle.table.specs.Promise.{FoundAt}
use Rattle.table.specs.View.{machine_of}
use Rattle.table.proofs.Stored.{Stores, changed_found}
use Rattle.call_letters.proofs.set_letters.Goals.{After-with_letters}
use Rattle.call_letters.proofs.set_letters.Goals as goal

taken : (c : After-with_letters) → Stores (Letters c.args.code c.args.letters) c.args.t.now (table_of c.t.inside) c.in_ok-place.place c.with_letters.result
unfolding checks well_formed machine_of first_failure effect
taken c =
    let q = quiet_letters c.args.letters in
    let h : FoundAt c.args.t.now c.args.code c.in_ok-place.place = search rules in
    changed_found c.t.view_is c.t.invariant h _ _ q.tame q.turnovers_kept c.with_letters.ensures (grind arith) refl

pub invariant_of-t : goal.invariant_of-t
invariant_of-t c = (taken (goal.at.invariant_of-t c).After-with_letters).0

pub returns : goal.returns
returns c = (taken (goal.at.returns c).After-with_letters).1
