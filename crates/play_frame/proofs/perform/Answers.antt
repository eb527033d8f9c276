use native.Mathlib.Omega.{arith}
use mir.Syntax.{w64}
use mir.Val.{SFits}
use mir.Facts.{to_z-of_z}
use borrow.Author.Rules.{rules}
use Rattle.command.specs.View.{to_command}
use Rattle.play_frame.proofs.Laws.{fewer, sound_after, by_book, by_table}
use Rattle.play_frame.proofs.perform.Goals as goal

pub invariant_of-l : goal.invariant_of-l
invariant_of-l c = sound_after tt c.bank_open.ensures (fewer (omega arith) c.l.invariant)

pub returns-in-Bank : goal.returns-in-Bank
unfolding to_command
returns-in-Bank c =
    rw (c.in-Bank.is, ← c.l.view_is) (by_table tt c.bank_open.ensures c.unreported.ensures)

pub invariant_of-l-in-Branch : goal.invariant_of-l-in-Branch
invariant_of-l-in-Branch c = sound_after tt c.branch_open.ensures (fewer (omega arith) c.l-in-Branch.invariant)

pub returns-in-Branch : goal.returns-in-Branch
unfolding to_command
returns-in-Branch c =
    rw (c.in-Branch.is, ← c.l-in-Branch.view_is) (by_table tt c.branch_open.ensures c.unreported-in-Branch.ensures)

pub invariant_of-l-in-Funding : goal.invariant_of-l-in-Funding
invariant_of-l-in-Funding c = sound_after tt c.fund.ensures c.l-in-Funding.invariant

pub returns-in-Funding : goal.returns-in-Funding
unfolding to_command
returns-in-Funding c =
    let f : SFits w64 c.in-Funding.a = search rules in
    rw (c.in-Funding.is, ← c.l-in-Funding.view_is) (by_table tt (rw (to_z-of_z f) at c.fund.ensures) c.unreported-in-Funding.ensures)

pub invariant_of-l-in-Withdrawal : goal.invariant_of-l-in-Withdrawal
invariant_of-l-in-Withdrawal c = sound_after tt c.withdraw.ensures c.l-in-Withdrawal.invariant

pub returns-in-Withdrawal : goal.returns-in-Withdrawal
unfolding to_command
returns-in-Withdrawal c =
    let f : SFits w64 c.in-Withdrawal.a = search rules in
    rw (c.in-Withdrawal.is, ← c.l-in-Withdrawal.view_is) (by_table tt (rw (to_z-of_z f) at c.withdraw.ensures) c.unreported-in-Withdrawal.ensures)

pub invariant_of-l-in-BankLimits : goal.invariant_of-l-in-BankLimits
invariant_of-l-in-BankLimits c = sound_after tt c.bank_limits.ensures c.l-in-BankLimits.invariant

pub returns-in-BankLimits : goal.returns-in-BankLimits
unfolding to_command
returns-in-BankLimits c =
    let f : SFits w64 c.in-BankLimits.ltk = search rules in
    let g : SFits w64 c.in-BankLimits.lpo = search rules in
    rw (c.in-BankLimits.is, ← c.l-in-BankLimits.view_is) (by_table tt (rw (to_z-of_z f, to_z-of_z g) at c.bank_limits.ensures) c.unreported-in-BankLimits.ensures)

pub invariant_of-l-in-Payment : goal.invariant_of-l-in-Payment
invariant_of-l-in-Payment c = sound_after tt c.pay.ensures c.l-in-Payment.invariant

pub returns-in-Payment : goal.returns-in-Payment
unfolding to_command
returns-in-Payment c =
    rw (c.in-Payment.is, ← c.l-in-Payment.view_is) (by_table tt c.pay.ensures c.unreported-in-Payment.ensures)

pub returns-in-Change : goal.returns-in-Change
unfolding to_command
returns-in-Change c = rw c.in-Change.is (by_book tt c.change.ensures c.unreported-in-Change.ensures)

pub returns-in-Deletion : goal.returns-in-Deletion
unfolding to_command
returns-in-Deletion c = rw c.in-Deletion.is (by_book tt c.deletion.ensures c.unreported-in-Deletion.ensures)

pub returns-in-Query : goal.returns-in-Query
unfolding to_command
returns-in-Query c = rw c.in-Query.is c.query.ensures.reports

pub returns-in-Opening : goal.returns-in-Opening
unfolding to_command
returns-in-Opening c = rw c.in-Opening.is (by_book tt c.«open».ensures c.unreported-in-Opening.ensures)

pub returns-in-Search : goal.returns-in-Search
unfolding to_command
returns-in-Search c = rw c.in-Search.is c.search.ensures.reports

pub invariant_of-l-in-Letters : goal.invariant_of-l-in-Letters
invariant_of-l-in-Letters c = sound_after tt c.set_letters.ensures c.l-in-Letters.invariant

pub returns-in-Letters : goal.returns-in-Letters
unfolding to_command
returns-in-Letters c =
    rw (c.in-Letters.is, ← c.l-in-Letters.view_is) (by_table tt c.set_letters.ensures c.unreported-in-Letters.ensures)

pub invariant_of-l-in-Mark : goal.invariant_of-l-in-Mark
invariant_of-l-in-Mark c = sound_after tt c.mark_bank.ensures c.l-in-Mark.invariant

pub returns-in-Mark : goal.returns-in-Mark
unfolding to_command
returns-in-Mark c =
    rw (c.in-Mark.is, ← c.l-in-Mark.view_is) (by_table tt c.mark_bank.ensures c.unreported-in-Mark.ensures)
