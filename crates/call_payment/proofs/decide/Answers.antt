use borrow.Author.Rules.{rules}
use native.Mathlib.Omega.{arith}
use mathlib.Core.Path.{◌≡◌, sym, subst}
use mir.Facts.{to_z-of_z}
use mir.Syntax.{w64}
use mir.Val.{SFits}
use Rattle.refusal.specs.Answer.{number, answer_of}
use Rattle.refusal.proofs.Numbers.{no_zero}
use Rattle.call_payment.proofs.Parties.{Decided, early_decides, late_decides}
use Rattle.call_payment.proofs.decide.Goals as goal

pub returns-in_err-both-clause-says : goal.returns-in_err-both-clause-says
returns-in_err-both-clause-says c =
    let e : answer_of c.from_residual.result ≡ number c.in_err-both.field-0.0 = grind arith in
    subst (Decided c.args.p c.args.found) (sym e) (early_decides c.args.p c.args.found _ c.in_err-both.ensures.says (no_zero c.in_err-both.field-0.0))

pub returns-clause-says : goal.returns-clause-says
returns-clause-says c =
    let f : SFits w64 c.args.p.amount = search rules in
    late_decides c.args.p c.args.found _ c.in_ok-both.ensures.parties c.in_ok-both.ensures.says _ (rw (c.is_credit.ensures, c.amount_of.ensures, to_z-of_z f) at c.late.ensures)
