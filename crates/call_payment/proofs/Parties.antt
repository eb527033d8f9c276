-- The checks of a payment by where its parties and their banks stand. Assumes nothing.
use mathlib.Core.Path.{◌≡◌, refl, sym, ap, ap₂, ◌∙◌, subst}
use mathlib.Core.Bool.{Bool, true, false, ◌&&◌}
use mathlib.Core.List.{List, ◌++◌}
use Prim.Native.Nat.{ℕ}
use lib.ListN.{drop, get_or}
use lib.IntN.{nat_abs}
use lib.Dec.{T, eqb}
use Rattle.std.specs.Prelude.{Option, Some, None, is_some, MatchOption}
use Rattle.rules.specs.Account as Rule
use Rattle.rules.specs.Account.{known, at}
use Rattle.rules.specs.Command.{Command, Payment}
use Rattle.rules.specs.Invariant.{Sized}
use Rattle.rules.specs.Letters.{letters_allow}
use Rattle.rules.specs.Machine.{checks, first_failure, answer}
use Rattle.rules.specs.Payment.{is_credit, payer, payee, bank_of, inside, payment_checks}
use Rattle.rules.proofs.Checks.{passed, early, late}
use Rattle.rules.proofs.Lists.{at_code}
use Rattle.account.specs.declared.Account.{Account}
use Rattle.account.specs.View.{to_account}
use Rattle.table.specs.declared.Table.{Table}
use Rattle.table.specs.Promise.{call, FoundAt}
use Rattle.table.specs.View.{accounts_of, machine_of}
use Rattle.payment_letters.specs.Sides.{sides_pass}
use Rattle.payment_checks.specs.Checks.{early_checks, party_checks}
use Rattle.command.specs.declared.Transfer.{Transfer}
use Rattle.payment_parties.specs.declared.Parties.{Parties}
use Rattle.payment_parties.specs.Finding.{PartiesAt}
use Rattle.payment_parties.proofs.Banks.{both_known}

abbrev pub as_payment : Transfer → Command
as_payment p = Payment p.way p.sender p.receiver p.amount

pub found_sized : (t : Table) (c i : ℕ) (d : Account) → FoundAt t c i → Sized (to_account (get_or t.accounts i d))
found_sized t c i d h = subst Sized (sym (h.account d)) h.sized

-- the letters of the parties, by who pays and by who sends
sides_allow : (credit : Bool) (s r : ℕ) (xs : List Rule.Account)
    → sides_pass credit (at (payer credit s r) xs) (at (bank_of (payer credit s r) xs) xs) (at (payee credit s r) xs) (at (bank_of (payee credit s r) xs) xs)
    ≡ letters_allow credit s r xs
unfolding payer payee sides_pass letters_allow
sides_allow true s r xs = refl
sides_allow false s r xs = refl

-- the accounts of two banks are one exactly where the banks are
banks_inside : (p q : ℕ) (xs : List Rule.Account) → T (known (bank_of p xs) xs) → T (known (bank_of q xs) xs)
    → eqb (at (bank_of p xs) xs).code (at (bank_of q xs) xs).code ≡ inside p q xs
unfolding inside
banks_inside p q xs h k = ap₂ eqb (at_code (bank_of p xs) xs h) (at_code (bank_of q xs) xs k)

module _ (t : Table) (p : Transfer) where
  found_both : (r : Option (Parties ℕ)) → MatchOption r ((known p.sender (accounts_of t) && known p.receiver (accounts_of t)) ≡ false) (PartiesAt t p)
      → is_some r ≡ (known p.sender (accounts_of t) && known p.receiver (accounts_of t))
  found_both None h = sym h
  found_both (Some f) h = sym (sym (both_known (is_credit p.way) p.sender p.receiver (accounts_of t)) ∙ ap₂ (λ x y. x && y) h.payer_at.own.is_known h.payee_at.own.is_known)

  pub later_checks : List (ℕ × Bool)
  later_checks = drop 4 (checks (machine_of t) 0 (as_payment p))

  -- the machine's answer, by what was found
  by_found : (r : Option (Parties ℕ)) → MatchOption r ((known p.sender (accounts_of t) && known p.receiver (accounts_of t)) ≡ false) (PartiesAt t p)
      → first_failure (early_checks p.way p.sender p.receiver p.amount (is_some r) ++ later_checks) ≡ answer (machine_of t) (call (as_payment p))
  unfolding answer call early_checks checks machine_of later_checks
  by_found r m = ap (λ b. first_failure (early_checks p.way p.sender p.receiver p.amount b ++ later_checks)) (found_both r m)

  pub none_answer : (known p.sender (accounts_of t) && known p.receiver (accounts_of t)) ≡ false → (a : ℕ)
      → a ≡ first_failure (early_checks p.way p.sender p.receiver p.amount false) → a ≡ answer (machine_of t) (call (as_payment p))
  unfolding early_checks
  none_answer h a is =
      early 4 (early_checks p.way p.sender p.receiver p.amount false ++ later_checks) a is (λ z. absurd (passed 4 (early_checks p.way p.sender p.receiver p.amount false) tt (sym is ∙ z)))
      ∙ by_found None h

  pub found_answer : (f : Parties ℕ) → PartiesAt t p f → (x b y d : Account)
      → first_failure (early_checks p.way p.sender p.receiver p.amount true ++ party_checks (is_credit p.way) (nat_abs p.amount) (to_account (get_or t.accounts f.payer.account x)) (to_account (get_or t.accounts f.payer.bank b)) (to_account (get_or t.accounts f.payee.account y)) (to_account (get_or t.accounts f.payee.bank d)))
      ≡ answer (machine_of t) (call (as_payment p))
  unfolding answer call checks payment_checks party_checks machine_of later_checks
  found_answer f q x b y d =
      rw (
        q.payer_at.own.account x,
        q.payer_at.bank.account b,
        q.payee_at.own.account y,
        q.payee_at.bank.account d,
        sides_allow (is_credit p.way) p.sender p.receiver (accounts_of t),
        banks_inside (payer (is_credit p.way) p.sender p.receiver) (payee (is_credit p.way) p.sender p.receiver) (accounts_of t)
            (subst T (sym q.payer_at.bank.is_known) tt) (subst T (sym q.payee_at.bank.is_known) tt),
      )
      (by_found (Some f) q)

-- ---- by accounts

abbrev pub parties_pass : Transfer → Parties Account → List (ℕ × Bool)
parties_pass p f = party_checks (is_credit p.way) (nat_abs p.amount) (to_account f.payer.account) (to_account f.payer.bank) (to_account f.payee.account) (to_account f.payee.bank)

-- a is what the checks answer
abbrev pub Decided : Transfer → Option (Parties Account) → ℕ → Type 0
Decided p found a = MatchOption found
    ((others : List (ℕ × Bool)) → a ≡ first_failure (early_checks p.way p.sender p.receiver p.amount false ++ others))
    (λ f. a ≡ first_failure (early_checks p.way p.sender p.receiver p.amount true ++ parties_pass p f))

module _ (p : Transfer) where
  pub early_decides : (found : Option (Parties Account)) (a : ℕ) → a ≡ first_failure (early_checks p.way p.sender p.receiver p.amount (is_some found)) → ¬ (a ≡ 0) → Decided p found a
  unfolding early_checks
  early_decides None a e h = λ others. early 4 (early_checks p.way p.sender p.receiver p.amount false ++ others) a e h
  early_decides (Some f) a e h = early 4 (early_checks p.way p.sender p.receiver p.amount true ++ parties_pass p f) a e h

  pub late_decides : (found : Option (Parties Account)) (f : Parties Account) → found ≡ Some f → 0 ≡ first_failure (early_checks p.way p.sender p.receiver p.amount (is_some found))
      → (a : ℕ) → a ≡ first_failure (parties_pass p f) → Decided p found a
  unfolding early_checks
  late_decides found f e z a is =
      subst (λ o. Decided p o a) (sym e)
      (is ∙ late 4 (early_checks p.way p.sender p.receiver p.amount true ++ parties_pass p f) tt (sym (subst (λ (o : Option (Parties Account)). 0 ≡ first_failure (early_checks p.way p.sender p.receiver p.amount (is_some o))) e z)))
