-- The four stores of a payment that is accepted. Assumes nothing.
use mathlib.Core.Path.{◌≡◌, refl}
use Prim.Native.Nat.{ℕ, ◌+◌, ◌^◌, ◌≤◌, ◌<◌}
use native.Mathlib.Omega.{arith}
use lib.ListN.{get_or, set}
use lib.IntN.{nat_abs}
use lib.Dec.{T}
use Rattle.amount.specs.Amount.{is_amount}
use Rattle.amount.proofs.Laws.{amount_range}
use Rattle.rules.specs.Account.{turnover}
use Rattle.rules.specs.Machine.{answer}
use Rattle.rules.specs.Payment.{is_credit, payer, out_turnover, in_turnover, raised, book_party}
use Rattle.account.specs.declared.Account.{Account}
use Rattle.account.specs.View.{to_account}
use Rattle.table.specs.declared.Table.{Table}
use Rattle.table.specs.Promise.{Good, call, Called}
use Rattle.table.specs.View.{accounts_of, machine_of}
use Rattle.table.proofs.Stored.{Stored, stored_none, stored_called}
use Rattle.command.specs.declared.Transfer.{Transfer}
use Rattle.payment_parties.specs.declared.Parties.{Parties}
use Rattle.payment_parties.specs.Finding.{PartiesAt}
use Rattle.payment_booking.specs.Share.{share}
use Rattle.call_payment.proofs.Bookings.{bank_room, own_room, own_stored, owner_booked, paid}
use Rattle.call_payment.proofs.Parties.{as_payment}

-- ---- the stores of an accepted one

module _ (t : Table) (g : Good t) (p : Transfer) (f : Parties ℕ) (q : PartiesAt t p f) (in_range : T (is_amount p.amount)) (o : Account) where
  few : nat_abs p.amount ≤ 10 ^ 15
  few = (amount_range p.amount in_range).1

  stored : Stored t t.accounts (10 ^ 17) (accounts_of t)
  stored = stored_none t g q.payer_at.own.long

  -- the payer's bank, then the payer
  pub out_room : turnover (out_turnover (is_credit p.way)) (to_account (get_or t.accounts f.payer.bank o)).turnovers + nat_abs p.amount < 2 ^ 64
  out_room = bank_room t g stored (omega arith) q.payer_at refl (out_turnover (is_credit p.way)) o (nat_abs p.amount) few

  module _ (x1 : Account) (e1 : to_account x1 ≡ raised (out_turnover (is_credit p.way)) (nat_abs p.amount) (to_account (get_or t.accounts f.payer.bank o))) where
    pub own_out_room : turnover (out_turnover (is_credit p.way)) (to_account (get_or (set t.accounts f.payer.bank x1) f.payer.account o)).turnovers + nat_abs p.amount < 2 ^ 64
    own_out_room = own_room t g stored (omega arith) q.payer_at refl (out_turnover (is_credit p.way)) o (nat_abs p.amount) few x1 e1

    -- the payee's bank, then the payee
    module _ (x2 : Account)
        (e2 : to_account x2 ≡ raised (out_turnover (is_credit p.way)) (share (to_account (get_or (set t.accounts f.payer.bank x1) f.payer.account o)) (nat_abs p.amount)) (to_account (get_or (set t.accounts f.payer.bank x1) f.payer.account o))) where
      paid_out : Stored t (set (set t.accounts f.payer.bank x1) f.payer.account x2) ((10 ^ 17 + 10 ^ 15) + 10 ^ 15) (book_party (out_turnover (is_credit p.way)) (nat_abs p.amount) (payer (is_credit p.way) p.sender p.receiver) (accounts_of t))
      paid_out = own_stored t g stored (omega arith) q.payer_at refl (out_turnover (is_credit p.way)) o (nat_abs p.amount) few x1 e1 x2 e2

      pub in_room : turnover (in_turnover (is_credit p.way)) (to_account (get_or (set (set t.accounts f.payer.bank x1) f.payer.account x2) f.payee.bank o)).turnovers + nat_abs p.amount < 2 ^ 64
      in_room = bank_room t g paid_out (omega arith) q.payee_at (owner_booked _ _ _ _ _) (in_turnover (is_credit p.way)) o (nat_abs p.amount) few

      module _ (x3 : Account) (e3 : to_account x3 ≡ raised (in_turnover (is_credit p.way)) (nat_abs p.amount) (to_account (get_or (set (set t.accounts f.payer.bank x1) f.payer.account x2) f.payee.bank o))) where
        pub own_in_room : turnover (in_turnover (is_credit p.way)) (to_account (get_or (set (set (set t.accounts f.payer.bank x1) f.payer.account x2) f.payee.bank x3) f.payee.account o)).turnovers + nat_abs p.amount < 2 ^ 64
        own_in_room = own_room t g paid_out (omega arith) q.payee_at (owner_booked _ _ _ _ _) (in_turnover (is_credit p.way)) o (nat_abs p.amount) few x3 e3

        pub booked : answer (machine_of t) (call (as_payment p)) ≡ 0 → (x4 : Account)
            → to_account x4
            ≡ raised (in_turnover (is_credit p.way)) (share (to_account (get_or (set (set (set t.accounts f.payer.bank x1) f.payer.account x2) f.payee.bank x3) f.payee.account o)) (nat_abs p.amount)) (to_account (get_or (set (set (set t.accounts f.payer.bank x1) f.payer.account x2) f.payee.bank x3) f.payee.account o))
            → Called (as_payment p) t (record { answer = 0; table = record { codes = t.codes; accounts = set (set (set (set t.accounts f.payer.bank x1) f.payer.account x2) f.payee.bank x3) f.payee.account x4; count = t.count; day = t.day } })
        unfolding machine_of
        booked z x4 e4 =
            stored_called t g (as_payment p) _ _ _
            (own_stored t g paid_out (omega arith) q.payee_at (owner_booked _ _ _ _ _) (in_turnover (is_credit p.way)) o (nat_abs p.amount) few x3 e3 x4 e4)
            z (paid (machine_of t) p.way p.sender p.receiver p.amount)
