-- Money inside one group: what leaves the bank's account comes back to it, so no bank's state moves, and both are booked. Assumes nothing.
use mathlib.Core.Path.{◌≡◌, refl, sym, ap, ap₂, ◌∙◌, subst}
use mathlib.Core.Bool.{Bool, true, false}
use mathlib.Core.List.{List}
use mathlib.Core.Option.{Option, none, some}
use Prim.Native.Nat.{ℕ, ◌+◌}
use native.Mathlib.Omega.{arith}
use lib.IntN.{ℤ, nat_abs, ◌+ℤ◌}
use lib.Dec.{T, eqb, eqb_refl}
use Rattle.amount.proofs.Integer.{difference_is}
use Rattle.rules.specs.Account.{Turnovers, Account, balance, state_of, state, is_bank, turnover, raise, with_turnovers, known, at}
use Rattle.rules.specs.Command.{Payment, Call}
use Rattle.rules.specs.Demand.{InsideGroup}
use Rattle.rules.specs.Invariant.{Owned, Invariant}
use Rattle.rules.specs.Machine.{Machine, with_accounts, checks, effect, answer, next}
use Rattle.rules.specs.Payment.{is_credit, payer, payee, out_turnover, in_turnover, bank_of, payment_checks, pay}
use Rattle.rules.proofs.Bools.{is_true, or_l}
use Rattle.rules.proofs.Branches.{touches, touches_bank, at_pay, paid_of, in_paid, out_paid}
use Rattle.rules.proofs.Checks.{passed, by_answer}
use Rattle.rules.proofs.Ledger.{inflow, outflow, balance_is, payer_known, payee_known}
use Rattle.rules.proofs.Payments.{balance_reads}

-- n out and n in leave the balance as it was, and so does neither
balance_both : (credit both : Bool) (n : ℕ) (t : Turnovers) → balance (paid_of credit both both n t) ≡ balance t
balance_both credit false n t = refl
balance_both credit true n t =
    let u : Turnovers = paid_of credit true true n t in
    let «in» : inflow u ≡ inflow t + n = in_paid credit true true n t in
    let out : outflow u ≡ outflow t + n = out_paid credit true true n t in
    balance_is u ∙ sym (difference_is (balance t) (inflow u) (outflow u) (omega (arith, balance_reads t)))

-- a state goes by the balance
by_balance : (o : Option ℕ) (s : ℤ) (t u : Turnovers) → balance t ≡ balance u → state_of o s t ≡ state_of o s u
unfolding state_of
by_balance none s t u e = ap (λ z. s +ℤ z) e
by_balance (some b) s t u e = e

-- n out and n in are both booked
raised_both : (credit : Bool) (n : ℕ) (t : Turnovers)
    → (turnover (out_turnover credit) (paid_of credit true true n t) ≡ turnover (out_turnover credit) t + n)
    × (turnover (in_turnover credit) (paid_of credit true true n t) ≡ turnover (in_turnover credit) t + n)
unfolding turnover raise out_turnover in_turnover
raised_both true n t = (refl, refl)
raised_both false n t = (refl, refl)

-- where both parties have the bank b
module _ (credit : Bool) (n p q b : ℕ) (xs : List Account) (w : Owned xs) (kp : T (known p xs)) (kq : T (known q xs)) (ep : bank_of p xs ≡ b) (eq : bank_of q xs ≡ b) where
  state_inside : (c : ℕ) → T (is_bank (at c xs)) → state (at c (pay credit n p q xs)) ≡ state (at c xs)
  unfolding state with_turnovers
  state_inside c h =
      let x : Account = at c xs in
      let same : touches q c xs ≡ touches p c xs = touches_bank q c xs h ∙ ap (λ z. eqb z c) (eq ∙ sym ep) ∙ sym (touches_bank p c xs h) in
      ap state (at_pay credit n p q c xs w kp kq)
      ∙ ap (λ g. state_of x.owner x.start (paid_of credit (touches p c xs) g n x.turnovers)) same
      ∙ by_balance x.owner x.start _ x.turnovers (balance_both credit (touches p c xs) n x.turnovers)

  turned_inside : (at b (pay credit n p q xs)).turnovers ≡ paid_of credit true true n (at b xs).turnovers
  unfolding with_turnovers
  turned_inside =
      ap (λ (x : Account). x.turnovers) (at_pay credit n p q b xs w kp kq)
      ∙ ap₂ (λ u v. paid_of credit u v n (at b xs).turnovers) (touched p ep) (touched q eq)
    where
      touched : (d : ℕ) → bank_of d xs ≡ b → touches d b xs ≡ true
      touched d e = is_true (touches d b xs) (or_l (eqb (bank_of d xs) b) _ (subst (λ z. T (eqb z b)) (sym e) (eqb_refl b)))

-- where sender and receiver share one bank, payer and payee have it too
pub banks_of : (credit : Bool) (s r : ℕ) (xs : List Account) → bank_of s xs ≡ bank_of r xs
    → (bank_of (payer credit s r) xs ≡ bank_of s xs) × (bank_of (payee credit s r) xs ≡ bank_of s xs)
unfolding payer payee
banks_of true s r xs e = (refl, sym e)
banks_of false s r xs e = (sym e, refl)

-- of the call
pub inside_group : (m : Machine) (room way s r : ℕ) (a : ℤ) → Invariant m → bank_of s m.accounts ≡ bank_of r m.accounts
    → let k : Call = record { command = Payment way s r a; room = room } in
    InsideGroup m.accounts (next m k).accounts (answer m k) way (nat_abs a) (bank_of s m.accounts)
unfolding answer checks effect with_accounts payment_checks
inside_group m room way s r a v one =
    by_answer (λ n m'. InsideGroup xs m'.accounts n way (nat_abs a) (bank_of s xs)) m (record { command = Payment way s r a; room = room })
    (λ n. record { states_kept = λ c h. refl; out_raised = λ e. absurd (omega arith); in_raised = λ e. absurd (omega arith) })
    (λ e. let kp = payer_known (is_credit way) s r xs (passed 4 _ tt e) in
    let kq = payee_known (is_credit way) s r xs (passed 4 _ tt e) in
    let t = turned_inside (is_credit way) (nat_abs a) p q (bank_of s xs) xs v.owned kp kq b.0 b.1 in
    record {
      states_kept = state_inside (is_credit way) (nat_abs a) p q (bank_of s xs) xs v.owned kp kq b.0 b.1;
      out_raised = λ z. ap (turnover (out_turnover (is_credit way))) t ∙ (raised_both (is_credit way) (nat_abs a) (at (bank_of s xs) xs).turnovers).0;
      in_raised = λ z. ap (turnover (in_turnover (is_credit way))) t ∙ (raised_both (is_credit way) (nat_abs a) (at (bank_of s xs) xs).turnovers).1;
    })
  where
    xs : List Account
    xs = m.accounts

    p : ℕ
    p = payer (is_credit way) s r

    q : ℕ
    q = payee (is_credit way) s r

    b : (bank_of p xs ≡ bank_of s xs) × (bank_of q xs ≡ bank_of s xs)
    b = banks_of (is_credit way) s r xs one
