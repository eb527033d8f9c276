-- What is booked at one side of a payment, as two stores one after the other: the bank's account, and then the party's own share. Assumes nothing.
use mathlib.Core.Path.{◌≡◌, refl, sym, ap, ◌∙◌, subst}
use mathlib.Core.Bool.{true, false, cond}
use mathlib.Core.List.{List, [], ◌∷◌}
use mathlib.Core.Option.{Option, none, some}
use Prim.Native.Nat.{ℕ, ◌+◌, ◌*◌, ◌^◌, ◌≤◌, ◌<◌}
use native.Mathlib.Omega.{arith}
use native.Mathlib.Nat.{add-zero}
use lib.ListN.{get_or, set}
use lib.IntN.{ℤ, nat_abs}
use lib.Dec.{eqb}
use Rattle.rules.specs.Account as Rule
use Rattle.rules.specs.Account.{Turnover, ICDT, RCDT, IDDT, RDDT, is_none, is_bank, turnover, raise, with_turnovers, at, adjust}
use Rattle.rules.specs.Command.{Payment}
use Rattle.rules.specs.Machine.{Machine, with_accounts, effect}
use Rattle.rules.specs.Payment.{is_credit, payer, payee, out_turnover, in_turnover, bank_or, bank_of, raised, book_for, book_party, pay}
use Rattle.rules.proofs.Ledger.{tame_raised, keeps_book}
use Rattle.rules.proofs.Lists.{at_keeps}
use Rattle.account.specs.declared.Account.{Account}
use Rattle.account.specs.View.{to_account}
use Rattle.table.specs.declared.Table.{Table}
use Rattle.table.specs.Promise.{Good}
use Rattle.table.specs.View.{accounts_of}
use Rattle.table.proofs.Stored.{Stored, stored_at, stored_room, stored_one}
use Rattle.payment_booking.specs.Share.{share}
use Rattle.payment_booking.proofs.Laws.{share_most}
use Rattle.account.specs.declared.Party.{Party}
use Rattle.payment_parties.specs.Finding.{PartyAt}

-- ---- the machine's booking

raised_none : (k : Turnover) (x : Rule.Account) → raised k 0 x ≡ x
unfolding raised with_turnovers raise
raised_none ICDT x = rw (add-zero x.turnovers.icdt)
raised_none RCDT x = rw (add-zero x.turnovers.rcdt)
raised_none IDDT x = rw (add-zero x.turnovers.iddt)
raised_none RDDT x = rw (add-zero x.turnovers.rddt)

adjust_none : (c : ℕ) (f : Rule.Account → Rule.Account) → ((x : Rule.Account) → f x ≡ x) → (xs : List Rule.Account) → adjust c f xs ≡ xs
unfolding adjust
adjust_none c f h [] = refl
adjust_none c f h (x ∷ xs) =
    elim (eqb x.code c) as (λ b. cond b (f x ∷ xs) (x ∷ adjust c f xs) ≡ x ∷ xs) [ true ↦ ap (λ y. y ∷ xs) (h x) | false ↦ ap (λ l. x ∷ l) (adjust_none c f h xs) ]

book_for_lem : (o : Option ℕ) (k : Turnover) (n c : ℕ) (xs : List Rule.Account) → adjust c (raised k (cond (is_none o) 0 n)) (adjust (bank_or o c) (raised k n) xs) ≡ book_for o k n c xs
unfolding book_for bank_or is_none
book_for_lem none k n c xs = adjust_none c (raised k 0) (raised_none k) (adjust c (raised k n) xs)
book_for_lem (some b) k n c xs = refl

book_is : (k : Turnover) (n c : ℕ) (xs : List Rule.Account)
    → adjust c (raised k (share (at c (adjust (bank_of c xs) (raised k n) xs)) n)) (adjust (bank_of c xs) (raised k n) xs) ≡ book_party k n c xs
unfolding share bank_of book_party is_bank
book_is k n c xs =
    ap (λ o. adjust c (raised k (cond (is_none o) 0 n)) (adjust (bank_of c xs) (raised k n) xs))
    (at_keeps (bank_of c xs) (raised k n) (tame_raised k n).code_kept (λ x. x.owner) (tame_raised k n).owner_kept c xs)
    ∙ book_for_lem (at c xs).owner k n c xs

-- ---- the table's: of a party and its bank, in accounts xs whose owners are still the table's

module _ (t : Table) (g : Good t) {arr : List Account} {b : ℕ} {xs : List Rule.Account} (s : Stored t arr b xs) (low : b ≤ 3 * 10 ^ 17)
    {c : ℕ} {f : Party ℕ} (p : PartyAt t c f) (owner : (at c xs).owner ≡ (at c (accounts_of t)).owner) (kind : Turnover) (d : Account) where
  same_bank : bank_of c (accounts_of t) ≡ bank_of c xs
  unfolding bank_of
  same_bank = ap (λ o. bank_or o c) (sym owner)

  pub bank_room : (n : ℕ) → n ≤ 10 ^ 15 → turnover kind (to_account (get_or arr f.bank d)).turnovers + n < 2 ^ 64
  bank_room n few = stored_room t g s (bank_of c (accounts_of t)) f.bank d p.bank.place p.bank.below kind n (omega arith) few

  module _ (n : ℕ) (few : n ≤ 10 ^ 15) (y : Account) (e : to_account y ≡ raised kind n (to_account (get_or arr f.bank d))) where
    bank_stored : Stored t (set arr f.bank y) (b + 10 ^ 15) (adjust (bank_of c xs) (raised kind n) xs)
    bank_stored = rw (← same_bank) (stored_one t g s (bank_of c (accounts_of t)) f.bank d p.bank.place p.bank.below kind n y few e)

    pub own_room : turnover kind (to_account (get_or (set arr f.bank y) f.account d)).turnovers + n < 2 ^ 64
    own_room = stored_room t g bank_stored c f.account d p.own.place p.own.below kind n (omega arith) few

    pub own_stored : (z : Account) → to_account z ≡ raised kind (share (to_account (get_or (set arr f.bank y) f.account d)) n) (to_account (get_or (set arr f.bank y) f.account d))
        → Stored t (set (set arr f.bank y) f.account z) ((b + 10 ^ 15) + 10 ^ 15) (book_party kind n c xs)
    own_stored z e2 =
        subst (Stored t (set (set arr f.bank y) f.account z) ((b + 10 ^ 15) + 10 ^ 15)) (book_is kind n c xs)
        (subst (λ x. Stored t (set (set arr f.bank y) f.account z) ((b + 10 ^ 15) + 10 ^ 15) (adjust c (raised kind (share x n)) (adjust (bank_of c xs) (raised kind n) xs))) (stored_at t g bank_stored c f.account d p.own.place p.own.below)
        (stored_one t g bank_stored c f.account d p.own.place p.own.below kind (share (to_account (get_or (set arr f.bank y) f.account d)) n) z (omega (arith, share_most (to_account (get_or (set arr f.bank y) f.account d)) n)) e2))

-- ---- both sides

pub owner_booked : (k : Turnover) (n c e : ℕ) (xs : List Rule.Account) → (at e (book_party k n c xs)).owner ≡ (at e xs).owner
owner_booked k n c e xs = keeps_book k n c (λ (x : Rule.Account). x.owner) (tame_raised k n).owner_kept e xs

pub paid : (m : Machine) (w s r : ℕ) (a : ℤ)
    → with_accounts (book_party (in_turnover (is_credit w)) (nat_abs a) (payee (is_credit w) s r) (book_party (out_turnover (is_credit w)) (nat_abs a) (payer (is_credit w) s r) m.accounts)) m
    ≡ effect m (Payment w s r a)
unfolding effect pay
paid m w s r a = refl
