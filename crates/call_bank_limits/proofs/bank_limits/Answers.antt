use native.Mathlib.Omega.{arith}
use borrow.Author.Rules.{rules}
use mathlib.Core.Path.{refl}
use mir.Facts.{to_z-of_z}
use mathlib.Core.Bool.{◌&&◌}
use Rattle.octets.specs.Octets.{is_money}
use Rattle.octets.proofs.Numbers.{fits_money}
use Rattle.account.specs.View.{to_limit}
use Rattle.rules.specs.Account.{Value}
use Rattle.rules.specs.Command.{BankLimits, is_code, well_formed}
use Rattle.rules.specs.Machine.{checks, first_failure, effect}
use Rattle.rules.proofs.Ledger.{quiet_limits}
use Rattle.table.specs.Inside.{table_of}
use Rattle.table.specs.View.{machine_of}
use Rattle.table.proofs.Called.{refused}
use Rattle.table.proofs.Stored.{Stores, changed_found}
use Rattle.bank_checks.specs.Parts.{bank_call_checks}
use Rattle.bank_checks.proofs.Banks.{and_money}
use Rattle.call_bank_limits.proofs.bank_limits.Goals.{After-with_limits}
use Rattle.call_bank_limits.proofs.bank_limits.Goals as goal

pub returns-in_err-place : goal.returns-in_err-place
unfolding checks bank_call_checks well_formed machine_of
returns-in_err-place c =
    refused 4 c.in_err-place.field-0.0 (search rules)
    (rw (c.in_range.ensures, to_z-of_z c.ranges.ltk, to_z-of_z c.ranges.lpo, and_money (is_code c.args.code) c.args.ltk c.ranges.ltk, and_money (is_code c.args.code && is_money c.args.ltk) c.args.lpo c.ranges.lpo) at c.in_err-place.ensures.says)

taken : (c : After-with_limits) → Stores (BankLimits c.args.code c.args.ltk c.args.lpo) c.args.t.now (table_of c.t.inside) c.in_ok-place.place c.with_limits.result
unfolding checks bank_call_checks well_formed machine_of first_failure effect to_limit
taken c =
    let q = quiet_limits (Value c.args.ltk) (Value c.args.lpo) in
    changed_found c.t.view_is c.t.invariant c.in_ok-place.ensures.place _ _ q.tame q.turnovers_kept
    (rw (to_z-of_z c.ranges.ltk, to_z-of_z c.ranges.lpo) at c.with_limits.ensures) (grind (arith, fits_money)) refl

pub invariant_of-t : goal.invariant_of-t
invariant_of-t c = (taken (goal.at.invariant_of-t c).After-with_limits).0

pub returns : goal.returns
returns c = (taken (goal.at.returns c).After-with_limits).1
