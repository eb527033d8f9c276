-- The account of a code with another limit, stored where it stands. Assumes nothing.
use Rattle.std.proofs.Common.{arith, ◌≡◌, refl, sym, ap, ◌∙◌, ℕ, zero, suc, ◌+◌, ◌≤◌, ◌<◌, List, [], ◌∷◌, map, length, drop, take, set, get_or}
use native.Mathlib.Numerals.{add-one}
use lib.ListN.{length-map, length-set, length-take}
use lib.Seq.{length-take-le, take-set-lt, get_or-take, drop-cons}
use Rattle.rules.specs.Account as Rule
use Rattle.rules.specs.Account.{blank, codes, at, adjust}
use Rattle.rules.specs.Command.{Header}
use Rattle.rules.specs.Message.{touch}
use Rattle.rules.proofs.Lists.{codes_adjust}
use Rattle.account.specs.declared.Account.{Account}
use Rattle.account.specs.View.{to_account}
use Rattle.table.specs.View.{place_of}
use Rattle.table.proofs.Places.{adjust_place, at_place, map_get_or, map_set}
use Rattle.message_items.specs.declared.Item.{Item}
use Rattle.message_limits.specs.Setting.{setting, in_use, Listed, set_records}

set_past : {X : Type 0} (l : List X) (i : ℕ) (x : X) → length l ≤ i → set l i x ≡ l
set_past [] i x h = refl
set_past (y ∷ l) zero x h = absurd (omega arith)
set_past (y ∷ l) (suc i) x h = ap (λ m. y ∷ m) (set_past l i x (omega arith))

module _ {numbers : List ℕ} {accounts : List Account} {n : ℕ} (g : Listed numbers accounts n) (c : ℕ) (f : Rule.Account → Rule.Account) where
  -- where the code is not among those in use, nothing is set
  pub none_set : place_of c (take n numbers) ≡ n → in_use accounts n ≡ adjust c f (in_use accounts n)
  none_set e =
      sym
      (adjust_place c f (in_use accounts n)
      ∙ set_past (in_use accounts n) _ (f (at c (in_use accounts n))) (omega (arith, ap (place_of c) g.own.same, e, length-map (take n accounts) to_account, length-take n accounts)))

  module _ (i : ℕ) (e : i ≡ place_of c (take n numbers)) (h : i < n) (y d : Account) (q : to_account y ≡ f (to_account (get_or accounts i d))) where
    here : i ≡ place_of c (codes (in_use accounts n))
    here = e ∙ ap (place_of c) g.own.same

    -- the account there is that of the code
    stands : to_account (get_or accounts i d) ≡ at c (in_use accounts n)
    stands =
        sym
        (at_place c (in_use accounts n)
        ∙ ap (λ j. get_or (in_use accounts n) j blank) (sym here)
        ∙ map_get_or to_account (take n accounts) i d blank (omega (arith, length-take-le n accounts (omega (arith, g.own.within, g.long))))
        ∙ ap to_account (get_or-take n accounts i d h))

    pub one_set : in_use (set accounts i y) n ≡ adjust c f (in_use accounts n)
    one_set =
        ap (map to_account) (take-set-lt n accounts i y h)
        ∙ map_set to_account (take n accounts) i y
        ∙ ap (set (in_use accounts n) i) (q ∙ ap f stands)
        ∙ ap (λ j. set (in_use accounts n) j (f (at c (in_use accounts n)))) here
        ∙ sym (adjust_place c f (in_use accounts n))

    -- the codes are as they were
    pub still_listed : ((x : Rule.Account) → (f x).code ≡ x.code) → Listed numbers (set accounts i y) n
    still_listed k = record {
      own = record { within = g.own.within; same = g.own.same ∙ sym (codes_adjust c f k (in_use accounts n)) ∙ ap codes (sym one_set) };
      long = simp length-set g.long;
    }

-- one item more
pub set_next : (h : Header) (is : List Item) (k : ℕ) (d : Item) (xs ys : List Rule.Account) → k < length is
    → ys ≡ adjust (get_or is k d).code (touch h (get_or is k d).kind (setting (get_or is k d).value)) xs → set_records h (drop (k + 1) is) ys ≡ set_records h (drop k is) xs
set_next h is k d xs ys l e =
    rw (add-one k) (ap (set_records h (drop (suc k) is)) e ∙ ap (λ (js : List Item). set_records h js xs) (sym (drop-cons is k d l)))
