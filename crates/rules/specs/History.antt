-- What a list of calls and its answers did to the ledger, read off the calls and the answers alone: no turnover, no state, no machine. Assumes nothing.
use Rattle.std.specs.Prelude.{Bool, true, false, cond, List, [], ◌∷◌, ℕ, ◌+◌, nat_abs, eqb}
use Rattle.rules.specs.Command.{Command, Bank, Branch, Funding, Withdrawal, BankLimits, Payment, Change, Deletion, Query, Opening, Search, Letters, Mark, Call, some?}
use Rattle.rules.specs.Payment.{is_credit, payer, payee}
use Rattle.rules.specs.Machine.{Outcome, if_accepted}

-- what an accepted command is to the ledger. An accepted payment takes the amount from its payer and brings it to the other party
pub data Event : Type 0 where
  Funds : ℕ → Event
  Withdraws : ℕ → Event
  Pays : ℕ → ℕ → ℕ → Event
  Opens : Event
  Nothing : Event

unfoldable pub event : Command → Event
event (Bank c) = Nothing
event (Branch c o l p) = Nothing
event (Funding c a) = Funds (nat_abs a)
event (Withdrawal c a) = Withdraws (nat_abs a)
event (BankLimits c l p) = Nothing
event (Payment w s r a) = Pays (payer (is_credit w) s r) (payee (is_credit w) s r) (nat_abs a)
event (Change h is) = Nothing
event (Deletion h i t) = Nothing
event (Query h is) = Nothing
event (Opening d) = Opens
event (Search h cs) = Nothing
event (Letters c l) = Nothing
event (Mark c) = Nothing

-- accepted means answered 0
unfoldable pub events : List Call → List Outcome → List Event
events [] os = []
events (k ∷ ks) [] = []
events (k ∷ ks) (o ∷ os) = if_accepted o.answer (event k.command) Nothing ∷ events ks os

-- ---- fundings and withdrawals

unfoldable pub funds : Event → ℕ
funds (Funds n) = n
funds (Withdraws n) = 0
funds (Pays p q n) = 0
funds Opens = 0
funds Nothing = 0

unfoldable pub withdraws : Event → ℕ
withdraws (Funds n) = 0
withdraws (Withdraws n) = n
withdraws (Pays p q n) = 0
withdraws Opens = 0
withdraws Nothing = 0

unfoldable pub sum_of : (Event → ℕ) → List Event → ℕ
sum_of f [] = 0
sum_of f (e ∷ es) = f e + sum_of f es

-- ---- payments since the last day opening, or the start

-- an amount that goes on from n: payments whose payer and other party are chosen add to it, and with a day opening it begins anew
unfoldable pub paid : (ℕ → ℕ → Bool) → Event → ℕ → ℕ
paid chosen (Funds a) n = n
paid chosen (Withdraws a) n = n
paid chosen (Pays p q a) n = cond (chosen p q) (n + a) n
paid chosen Opens n = 0
paid chosen Nothing n = n

unfoldable pub count : (ℕ → ℕ → Bool) → ℕ → List Event → ℕ
count chosen n [] = n
count chosen n (e ∷ es) = count chosen (paid chosen e n) es

-- the payments that the party c gets, and those that it gives
abbrev pub gets : ℕ → ℕ → ℕ → Bool
gets c p q = eqb q c

abbrev pub gives : ℕ → ℕ → ℕ → Bool
gives c p q = eqb p c

-- what they brought it, and what they took from it
unfoldable pub brought : ℕ → List Event → ℕ
brought c es = count (gets c) 0 es

unfoldable pub taken : ℕ → List Event → ℕ
taken c es = count (gives c) 0 es

-- ---- whether a day was opened

unfoldable pub is_opening : Event → Bool
is_opening (Funds a) = false
is_opening (Withdraws a) = false
is_opening (Pays p q a) = false
is_opening Opens = true
is_opening Nothing = false

unfoldable pub day_opened : List Event → Bool
day_opened es = some? is_opening es
