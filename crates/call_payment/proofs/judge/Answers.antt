use native.Mathlib.Omega.{arith}
use mathlib.Core.Path.{◌≡◌, ◌∙◌}
use Rattle.refusal.specs.Answer.{number, answer_of}
use Rattle.table.specs.Inside.{table_of}
use Rattle.payment_parties.specs.Finding.{PartiesAt}
use Rattle.call_payment.proofs.Parties.{none_answer, found_answer}
use Rattle.call_payment.proofs.judge.Goals as goal

pub returns-in-None-clause-says : goal.returns-in-None-clause-says
returns-in-None-clause-says c = none_answer c.args.t.now c.args.p c.in-None.ensures _ c.early.ensures.says

pub returns-in_err-decide-in-Some-clause-says : goal.returns-in_err-decide-in-Some-clause-says
returns-in_err-decide-in-Some-clause-says c =
    let q : PartiesAt (table_of c.t.inside) c.args.p c.in-Some.parties = rw (← c.t.view_is) at c.in-Some.ensures in
    let e : answer_of c.from_residual.result ≡ number c.in_err-decide-in-Some.field-0.0 = grind arith in
    rw (← c.t.view_is) (e ∙ c.in_err-decide-in-Some.ensures.says ∙ found_answer (table_of c.t.inside) c.args.p c.in-Some.parties q _ _ _ _)

pub returns-in_ok-decide-in-Some-clause-says : goal.returns-in_ok-decide-in-Some-clause-says
returns-in_ok-decide-in-Some-clause-says c =
    let q : PartiesAt (table_of c.t.inside) c.args.p c.in-Some.parties = rw (← c.t.view_is) at c.in-Some.ensures in
    rw (← c.t.view_is) (c.in_ok-decide-in-Some.ensures.says ∙ found_answer (table_of c.t.inside) c.args.p c.in-Some.parties q _ _ _ _)
