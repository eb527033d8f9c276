-- What the rules of each kind look at, and how large their numbers are: one arm a kind. Assumes nothing.
use mathlib.Core.Path.{◌≡◌, refl}
use mathlib.Core.Bool.{Bool, true, ◌&&◌}
use mathlib.Core.List.{List, [], ◌∷◌}
use Prim.Native.Nat.{ℕ}
use lib.Dec.{T, ltb}
use Rattle.rules.specs.Command.{Command, Bank, Branch, Funding, Withdrawal, BankLimits, Payment, Change, Deletion, Query, Opening, Search, Letters, Mark}
use Rattle.rules.specs.Machine.{Machine, with_accounts, has_place, checks, effect, answer}
use Rattle.rules.specs.Message.{Entry, limit_checks}
use Rattle.rules.specs.Payment.{payment_checks}
use Rattle.rules.specs.Report.{report_of}
use Rattle.table.specs.Promise.{call}
use Rattle.ledger.specs.View.{lent}
use Rattle.ledger.specs.Calls.{Reach, OnTable, OnBook, OnReport, reach, table_alone, no_report, plain, silent}

-- a machine with the ids es
unfoldable pub with_book : List Entry → Machine → Machine
with_book es m = record { day = m.day; accounts = m.accounts; ids = es }

-- the numbers of the checks have two digits
abbrev pub below : List (ℕ × Bool) → Bool
below [] = true
below (c ∷ cs) = ltb c.0 100 && below cs

module _ (m : Machine) (es : List Entry) (room : ℕ) where
  -- no check looks at the report buffer, and there is no report
  abbrev pub Silent : Command → Type 0
  Silent k = (answer m (lent 0 k) ≡ answer m (lent room k)) × (report_of m.accounts k ≡ [])

  -- no check and no step looks at the book
  abbrev pub Plain : Command → Type 0
  Plain k = (answer (with_book es m) (lent room k) ≡ answer m (call k)) × (effect (with_book es m) k ≡ with_book es (effect m k))

  abbrev Looks : Command → Reach → Type 0
  Looks k OnTable = (Silent k) × (Plain k)
  Looks k OnBook = Silent k
  Looks k OnReport = Unit {0}

  looks : (k : Command) → (T (below (checks m room k))) × (Looks k (reach k))
  unfolding answer call checks effect has_place limit_checks payment_checks report_of with_accounts with_book
  looks (Bank c) = (tt, ((refl, refl), (refl, refl)))
  looks (Branch c o l p) = (tt, ((refl, refl), (refl, refl)))
  looks (Funding c a) = (tt, ((refl, refl), (refl, refl)))
  looks (Withdrawal c a) = (tt, ((refl, refl), (refl, refl)))
  looks (BankLimits c l p) = (tt, ((refl, refl), (refl, refl)))
  looks (Payment w s r a) = (tt, ((refl, refl), (refl, refl)))
  looks (Change h is) = (tt, (refl, refl))
  looks (Deletion h i t) = (tt, (refl, refl))
  looks (Query h is) = (tt, tt)
  looks (Opening d) = (tt, (refl, refl))
  looks (Search h cs) = (tt, tt)
  looks (Letters c l) = (tt, ((refl, refl), (refl, refl)))
  looks (Mark c) = (tt, ((refl, refl), (refl, refl)))

  pub on_table : (k : Command) → T (plain k) → Plain k
  on_table k p = go (reach k) (looks k).1 p
    where
      go : (r : Reach) → Looks k r → T (table_alone r) → Plain k
      go OnTable l p = l.1
      go OnBook l p = absurd p
      go OnReport l p = absurd p

  pub unreported : (k : Command) → T (silent k) → Silent k
  unreported k s = go (reach k) (looks k).1 s
    where
      go : (r : Reach) → Looks k r → T (no_report r) → Silent k
      go OnTable l s = l.0
      go OnBook l s = l
      go OnReport l s = absurd s

pub checks_small : (m : Machine) (room : ℕ) (k : Command) → T (below (checks m room k))
checks_small m room k = (looks m [] room k).0

-- what looks at the table alone has no report
pub plain_silent : (k : Command) → T (plain k) → T (silent k)
plain_silent k p = go (reach k) p
  where
    go : (r : Reach) → T (table_alone r) → T (no_report r)
    go OnTable p = tt
    go OnBook p = tt
    go OnReport p = p
