use mathlib.Core.Path.{◌≡◌, sym, ap}
use mathlib.Core.List.{List, [], ◌∷◌}
use Prim.Native.Nat.{ℕ}
use mir.Syntax.{w64}
use mir.Val.{SFits}
use mir.Facts.{to_z-of_z}
use borrow.Author.Rules.{rules}
use Rattle.octets.proofs.Numbers.{fits_money}
use Rattle.frame.specs.Frame.{command_frame}
use Rattle.command.specs.View.{to_command}
use Rattle.command.specs.declared.Command.{Command}
use Rattle.octet_writer.specs.Written.{Written}
use Rattle.octet_writer.proofs.Laws.{written_same}
use Rattle.frame_writer.proofs.Twins.{bank_frame, mark_frame, funding_frame, withdrawal_frame}
use Rattle.frame_writer.proofs.write_command.Goals as goal

-- what is written of a command is written of the one that it is
of_command : {k k' : Command} {l r : List ℕ} {i j : ℕ} → k ≡ k' → Written l i (command_frame (to_command k' ∷ [])) r j → Written l i (command_frame (to_command k ∷ [])) r j
of_command e = written_same (sym (ap (λ k. command_frame (to_command k ∷ [])) e))

pub returns-in-Bank-clause-wrote : goal.returns-in-Bank-clause-wrote
unfolding to_command
returns-in-Bank-clause-wrote c =
    of_command c.in-Bank.is (written_same (sym (bank_frame c.in-Bank.code)) c.write_code.ensures.wrote)

pub returns-in-Branch-clause-wrote : goal.returns-in-Branch-clause-wrote
unfolding to_command
returns-in-Branch-clause-wrote c = of_command c.in-Branch.is c.write_branch.ensures.wrote

pub returns-in-Funding-clause-wrote : goal.returns-in-Funding-clause-wrote
unfolding to_command
returns-in-Funding-clause-wrote c =
    let f : SFits w64 c.in-Funding.amount = search rules in
    of_command c.in-Funding.is (written_same (sym (funding_frame c.in-Funding.code c.in-Funding.amount (fits_money c.in-Funding.amount f))) (rw (to_z-of_z f) at c.write_amount.ensures.wrote))

pub returns-in-Withdrawal-clause-wrote : goal.returns-in-Withdrawal-clause-wrote
unfolding to_command
returns-in-Withdrawal-clause-wrote c =
    let f : SFits w64 c.in-Withdrawal.amount = search rules in
    of_command c.in-Withdrawal.is (written_same (sym (withdrawal_frame c.in-Withdrawal.code c.in-Withdrawal.amount (fits_money c.in-Withdrawal.amount f))) (rw (to_z-of_z f) at c.write_amount-in-Withdrawal.ensures.wrote))

pub returns-in-BankLimits-clause-wrote : goal.returns-in-BankLimits-clause-wrote
unfolding to_command
returns-in-BankLimits-clause-wrote c =
    let f : SFits w64 c.in-BankLimits.ltk = search rules in
    let g : SFits w64 c.in-BankLimits.lpo = search rules in
    of_command c.in-BankLimits.is (rw (to_z-of_z f, to_z-of_z g) at c.write_bank_limits.ensures.wrote)

pub returns-in-Payment-clause-wrote : goal.returns-in-Payment-clause-wrote
unfolding to_command
returns-in-Payment-clause-wrote c =
    of_command c.in-Payment.is c.write_payment.ensures.wrote

pub returns-in-Change-clause-wrote : goal.returns-in-Change-clause-wrote
unfolding to_command
returns-in-Change-clause-wrote c = of_command c.in-Change.is c.write_change.ensures.wrote

pub returns-in-Deletion-clause-wrote : goal.returns-in-Deletion-clause-wrote
unfolding to_command
returns-in-Deletion-clause-wrote c = of_command c.in-Deletion.is c.write_deletion.ensures.wrote

pub returns-in-Query-clause-wrote : goal.returns-in-Query-clause-wrote
unfolding to_command
returns-in-Query-clause-wrote c = of_command c.in-Query.is c.write_query.ensures.wrote

pub returns-in-Opening-clause-wrote : goal.returns-in-Opening-clause-wrote
unfolding to_command
returns-in-Opening-clause-wrote c = of_command c.in-Opening.is c.write_opening.ensures.wrote

pub returns-in-Search-clause-wrote : goal.returns-in-Search-clause-wrote
unfolding to_command
returns-in-Search-clause-wrote c = of_command c.in-Search.is c.write_search.ensures.wrote

pub returns-in-Letters-clause-wrote : goal.returns-in-Letters-clause-wrote
unfolding to_command
returns-in-Letters-clause-wrote c = of_command c.in-Letters.is c.write_letters.ensures.wrote

pub returns-in-Mark-clause-wrote : goal.returns-in-Mark-clause-wrote
unfolding to_command
returns-in-Mark-clause-wrote c =
    of_command c.in-Mark.is (written_same (sym (mark_frame c.in-Mark.code)) c.write_code-in-Mark.ensures.wrote)
