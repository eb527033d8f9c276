-- Parties that are in the table, and their banks. Assumes nothing.
use mathlib.Core.Path.{◌≡◌, refl, sym, ap, ap₂, ◌∙◌, subst}
use mathlib.Core.Bool.{Bool, true, false, ◌&&◌, and_comm}
use mathlib.Core.Option.{Option, none, some}
use mathlib.Core.List.{List}
use Prim.Native.Nat.{ℕ}
use Rattle.std.specs.Prelude.{Option as Optional, Some, None, MatchOption}
use lib.Dec.{T}
use lib.ListN.{get_or}
use Rattle.rules.specs.Account as Rule
use Rattle.rules.specs.Account.{known}
use Rattle.rules.specs.Payment.{is_credit, payer, payee, bank_or, bank_of}
use Rattle.rules.proofs.Owners.{bank_of_lem}
use Rattle.account.specs.declared.Account.{Account}
use Rattle.account.specs.View.{to_account, to_owner}
use Rattle.table.specs.declared.Table.{Table}
use Rattle.table.specs.Promise.{Good, Kept, Among, FoundAt, Standing}
use Rattle.table.specs.View.{accounts_of, machine_of}
use Rattle.table.proofs.Found.{standing}
use Rattle.command.specs.declared.Transfer.{Transfer}
use Rattle.payment_parties.specs.declared.Found.{Found}
use Rattle.payment_parties.specs.Finding.{PartyAt}

-- by the owner of its account
pub bank_is : (t : Table) (c i : ℕ) (d : Account) (o : Option ℕ) → FoundAt t c i → to_owner (get_or t.accounts i d).owner ≡ o → bank_or o c ≡ bank_of c (accounts_of t)
unfolding bank_of to_account
bank_is t c i d o h e = ap (λ o. bank_or o c) (sym e) ∙ ap (λ (x : Rule.Account). bank_or x.owner c) (h.account d)

pub bank_known : (t : Table) → Good t → (c i : ℕ) → FoundAt t c i → T (known (bank_of c (accounts_of t)) (accounts_of t))
unfolding machine_of
bank_known t g c i h = (bank_of_lem c (accounts_of t) g.inv.owned (subst T (sym h.is_known) tt)).0

-- a party found at i, and the look-up of its bank by the account there
module _ (t : Table) (k : Kept t) (c i : ℕ) (d : Account) (h : FoundAt t c i) where
  bank_standing : (o : Optional ℕ) → (get_or t.accounts i d).owner ≡ o → (r : Optional ℕ) → MatchOption o (r ≡ Some i) (λ b. Among b t.count t.codes r)
      → Standing t (bank_of c (accounts_of t)) r
  unfolding bank_or to_owner
  bank_standing None e r m = subst (λ r. Standing t (bank_of c (accounts_of t)) r) (sym m) (subst (λ b. FoundAt t b i) (bank_is t c i d none h (ap to_owner e)) h)
  bank_standing (Some b) e r m = subst (λ b. Standing t b r) (bank_is t c i d (some b) h (ap to_owner e)) (standing t k b r m)

  -- it is there
  pub no_bank : ¬ (MatchOption (get_or t.accounts i d).owner (None ≡ Some i) (λ b. Among b t.count t.codes None))
  no_bank m = absurd (subst T (bank_standing _ refl None m) (bank_known t k.good c i h))

  pub with_bank : (j : ℕ) → MatchOption (get_or t.accounts i d).owner (Some j ≡ Some i) (λ b. Among b t.count t.codes (Some j)) → PartyAt t c (record { account = i; bank = j })
  with_bank j m = record { own = h; bank = bank_standing _ refl (Some j) m }

-- sender and receiver are payer and payee, in this order or the other
pub both_known : (credit : Bool) (s r : ℕ) (xs : List Rule.Account) → (known (payer credit s r) xs && known (payee credit s r) xs) ≡ (known s xs && known r xs)
unfolding payer payee
both_known true s r xs = refl
both_known false s r xs = and_comm (known r xs) (known s xs)

-- both looked up among a table's codes: payer and payee
module _ (t : Table) (k : Kept t) (p : Transfer) (f : Found)
    (a : Among (payer (is_credit p.way) p.sender p.receiver) t.count t.codes f.payer) (b : Among (payee (is_credit p.way) p.sender p.receiver) t.count t.codes f.payee) where
  pub payer_at : (i : ℕ) → f.payer ≡ Some i → FoundAt t (payer (is_credit p.way) p.sender p.receiver) i
  payer_at i e = subst (Standing t (payer (is_credit p.way) p.sender p.receiver)) e (standing t k _ f.payer a)

  pub payee_at : (i : ℕ) → f.payee ≡ Some i → FoundAt t (payee (is_credit p.way) p.sender p.receiver) i
  payee_at i e = subst (Standing t (payee (is_credit p.way) p.sender p.receiver)) e (standing t k _ f.payee b)

  pub no_payer : f.payer ≡ None → (known p.sender (accounts_of t) && known p.receiver (accounts_of t)) ≡ false
  no_payer e =
      sym (both_known (is_credit p.way) p.sender p.receiver (accounts_of t))
      ∙ ap (λ x. x && known (payee (is_credit p.way) p.sender p.receiver) (accounts_of t)) (subst (Standing t (payer (is_credit p.way) p.sender p.receiver)) e (standing t k _ f.payer a))

  pub no_payee : (i : ℕ) → f.payer ≡ Some i → f.payee ≡ None → (known p.sender (accounts_of t) && known p.receiver (accounts_of t)) ≡ false
  no_payee i h e =
      sym (both_known (is_credit p.way) p.sender p.receiver (accounts_of t))
      ∙ ap₂ (λ x y. x && y) (payer_at i h).is_known (subst (Standing t (payee (is_credit p.way) p.sender p.receiver)) e (standing t k _ f.payee b))
