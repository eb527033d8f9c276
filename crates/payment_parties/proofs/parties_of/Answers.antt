use Rattle.rules.specs.Payment.{is_credit, payer, payee}
use Rattle.table.specs.Inside.{table_of}
use Rattle.table.specs.Promise.{FoundAt}
use Rattle.payment_parties.proofs.Banks.{no_bank, with_bank, payer_at, payee_at, no_payer, no_payee}
use Rattle.payment_parties.proofs.parties_of.Goals.{In_ok-payer, In_ok-payee}
use Rattle.payment_parties.proofs.parties_of.Goals as goal

payer_here : (c : In_ok-payer) → FoundAt (table_of c.t.inside) (payer (is_credit c.args.p.way) c.args.p.sender c.args.p.receiver) c.in_ok-payer.payer
payer_here c = let f = c.find_parties-found in payer_at _ c.t.invariant c.args.p f.result f.ensures.payer f.ensures.payee _ c.in_ok-payer.was

payee_here : (c : In_ok-payee) → FoundAt (table_of c.t.inside) (payee (is_credit c.args.p.way) c.args.p.sender c.args.p.receiver) c.in_ok-payee.payee
payee_here c = let f = c.find_parties-found in payee_at _ c.t.invariant c.args.p f.result f.ensures.payer f.ensures.payee _ c.in_ok-payee.was

pub returns-in_err-payer : goal.returns-in_err-payer
returns-in_err-payer c =
    let f = c.find_parties-found in
    rw (c.from_residual.ensures, ← c.t.view_is) (no_payer _ c.t.invariant c.args.p f.result f.ensures.payer f.ensures.payee c.in_err-payer.was)

pub returns-in_err-payee : goal.returns-in_err-payee
returns-in_err-payee c =
    let f = c.find_parties-found in
    rw (c.from_residual-in_err-payee.ensures, ← c.t.view_is) (no_payee _ c.t.invariant c.args.p f.result f.ensures.payer f.ensures.payee _ c.in_ok-payer.was c.in_err-payee.was)

pub returns-in_err-bank_slot : goal.returns-in_err-bank_slot
returns-in_err-bank_slot c = absurd (no_bank _ c.t.invariant _ _ _ (payer_here (goal.at.returns-in_err-bank_slot c).In_ok-payer) c.in_err-bank_slot.ensures)

pub returns-in_err-bank_slot-2 : goal.returns-in_err-bank_slot-2
returns-in_err-bank_slot-2 c = absurd (no_bank _ c.t.invariant _ _ _ (payee_here (goal.at.returns-in_err-bank_slot-2 c).In_ok-payee) c.in_err-bank_slot-2.ensures)

pub returns : goal.returns
returns c =
    rw (← c.t.view_is)
    (record {
      payer_at = with_bank _ c.t.invariant _ _ _ (payer_here (goal.at.returns c).In_ok-payer) _ c.in_ok-bank_slot.ensures;
      payee_at = with_bank _ c.t.invariant _ _ _ (payee_here (goal.at.returns c).In_ok-payee) _ c.in_ok-bank_slot-2.ensures;
    })
