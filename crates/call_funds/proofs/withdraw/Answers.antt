use native.Mathlib.Omega.{arith}
use borrow.Author.Rules.{rules}
use mathlib.Core.Path.{refl}
use mir.Facts.{to_z-of_z}
use Rattle.octets.proofs.Numbers.{fits_money}
use Rattle.rules.specs.Account.{with_start}
use Rattle.rules.specs.Command.{Withdrawal, is_code, well_formed}
use Rattle.rules.specs.Machine.{checks, first_failure, effect}
use Rattle.rules.proofs.Ledger.{tame_start}
use Rattle.table.specs.Inside.{table_of}
use Rattle.table.specs.View.{machine_of}
use Rattle.table.proofs.Called.{refused}
use Rattle.table.proofs.Stored.{Stores, changed_found}
use Rattle.bank_checks.specs.Parts.{bank_call_checks}
use Rattle.bank_checks.proofs.Banks.{and_money}
use Rattle.call_funds.proofs.withdraw.Goals.{After-start_down}
use Rattle.call_funds.proofs.withdraw.Goals as goal

pub returns-in_err-place : goal.returns-in_err-place
unfolding checks bank_call_checks well_formed machine_of
returns-in_err-place c =
    refused 4 c.in_err-place.field-0.0 (search rules)
    (rw (c.is_amount.ensures, to_z-of_z c.ranges.amount, and_money (is_code c.args.code) c.args.amount c.ranges.amount) at c.in_err-place.ensures.says)

taken : (c : After-start_down) → Stores (Withdrawal c.args.code c.args.amount) c.args.t.now (table_of c.t.inside) c.in_ok-place.place c.start_down.result
unfolding checks bank_call_checks well_formed machine_of first_failure effect with_start
taken c =
    changed_found c.t.view_is c.t.invariant c.in_ok-place.ensures.place _ _ (tame_start _) (λ x. refl)
    (rw (c.amount_of-n.ensures, to_z-of_z c.ranges.amount) at c.start_down.ensures)
    (grind (arith, fits_money, rw (c.amount_of-n.ensures, to_z-of_z c.ranges.amount) at c.covers.ensures)) refl

pub invariant_of-t : goal.invariant_of-t
invariant_of-t c = (taken (goal.at.invariant_of-t c).After-start_down).0

pub returns : goal.returns
returns c = (taken (goal.at.returns c).After-start_down).1
