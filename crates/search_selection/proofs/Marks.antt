-- The set of the selected among the first accounts, and one account more. Assumes nothing.
use mathlib.Core.Path.{◌≡◌, refl, sym, ap, ◌∙◌}
use mathlib.Core.Bool.{Bool, true, false, cond}
use mathlib.Core.List.{List, [], ◌∷◌, ◌++◌, map, map-append}
use Prim.Native.Nat.{ℕ, zero, suc, ◌+◌, ◌*◌, ◌^◌, ◌≤◌, ◌<◌, ◌/◌, ◌%◌}
use native.Mathlib.Omega.{arith}
use native.Mathlib.Numerals.{add-one}
use lib.Dec.{eqb}
use lib.ListN.{length, take, get_or, length-map}
use lib.Seq.{take-suc, length-take-le, get_or-take}
use Rattle.rules.specs.Account as Rule
use Rattle.rules.specs.Account.{codes}
use Rattle.rules.specs.Command.{Condition, some?}
use Rattle.rules.specs.Message.{account_id}
use Rattle.rules.specs.Search.{meets, selects, those}
use Rattle.table.specs.declared.Table.{Table}
use Rattle.table.specs.View.{accounts_of}
use Rattle.table.specs.Promise.{Good}
use Rattle.search_set.specs.Sets.{set_of, chosen}
use Rattle.search_set.proofs.Laws.{set_below, set_more, set_same}

module _ (p : Rule.Account → Bool) (xs : List Rule.Account) (i : ℕ) where
  flags_length : i ≤ length xs → length (map p (take i xs)) ≡ i
  flags_length h = rw length-map (length-take-le i xs h)

  pub marked_below : i ≤ length xs → set_of (map p (take i xs)) < 2 ^ i
  marked_below h = rw (flags_length h) at (set_below (map p (take i xs)))

  one_more : (d : Rule.Account) → i < length xs → map p (take (i + 1) xs) ≡ map p (take i xs) ++ (p (get_or xs i d) ∷ [])
  one_more d h = rw (add-one i, take-suc xs i d h) (map-append p (take i xs) (get_or xs i d ∷ []))

  pub marked_more : (d : Rule.Account) (r : Bool) → i < length xs → r ≡ p (get_or xs i d)
      → set_of (map p (take (i + 1) xs)) ≡ cond r (set_of (map p (take i xs)) + 2 ^ i) (set_of (map p (take i xs)))
  marked_more d r h e =
      let l = map p (take i xs) in
      ap set_of (one_more d h ∙ ap (λ (b : Bool). l ++ (b ∷ [])) (sym e)) ∙ go r
    where
      go : (b : Bool) → set_of (map p (take i xs) ++ (b ∷ [])) ≡ cond b (set_of (map p (take i xs)) + 2 ^ i) (set_of (map p (take i xs)))
      go true = set_more (map p (take i xs)) ∙ ap (λ (n : ℕ). set_of (map p (take i xs)) + 2 ^ n) (flags_length (omega arith))
      go false = set_same (map p (take i xs))

pub none_marked : 0 ≡ set_of []
unfolding set_of
none_marked = refl

-- the code at a place
code_at : (xs : List Rule.Account) (i : ℕ) (d : Rule.Account) → i < length xs → get_or (codes xs) i 0 ≡ (get_or xs i d).code
unfolding codes
code_at [] i d h = absurd (omega arith)
code_at (x ∷ xs) zero d h = refl
code_at (x ∷ xs) (suc i) d h = code_at xs i d (omega arith)

pub length_codes : (xs : List Rule.Account) → length (codes xs) ≡ length xs
unfolding codes
length_codes [] = refl
length_codes (x ∷ xs) = ap suc (length_codes xs)

module _ (t : Table) (g : Good t) (long : length t.codes ≡ 64) where
  pub counted : length (accounts_of t) ≡ t.count
  counted = omega (arith, length-take-le t.count t.codes (omega (arith, g.own.within)), ap length g.own.same, length_codes (accounts_of t))

  pub table_code : (i : ℕ) (d : Rule.Account) → i < t.count → get_or t.codes i 0 ≡ (get_or (accounts_of t) i d).code
  table_code i d h =
      sym (get_or-take t.count t.codes i 0 h)
      ∙ ap (λ (l : List ℕ). get_or l i 0) g.own.same
      ∙ code_at (accounts_of t) i d (omega (arith, counted))

-- what was found of the id at a place is what selection says of the account there
pub found_selects : (t : Table) → Good t → length t.codes ≡ 64 → (cs : List Condition) (i : ℕ) (d : Rule.Account) (id : List ℕ) (r : Bool) → i < t.count
    → id ≡ account_id (get_or t.codes i 0) → r ≡ some? (meets id) cs → r ≡ selects cs (get_or (accounts_of t) i d)
unfolding selects
found_selects t g long cs i d id r h e f =
    f ∙ ap (λ (l : List ℕ). some? (meets l) cs) (e ∙ ap account_id (table_code t g long i d h))

-- the members of the set are those with the property
pub marked_those : (p : Rule.Account → Bool) (xs : List Rule.Account) → chosen (set_of (map p xs)) xs ≡ those p xs
unfolding set_of chosen those
marked_those p [] = refl
marked_those p (x ∷ xs) = go (p x) (set_of (map p xs)) (marked_those p xs)
  where
    go : (b : Bool) (n : ℕ) → chosen n xs ≡ those p xs
        → cond (eqb ((n * 2 + cond b 1 0) % 2) 1) (x ∷ chosen ((n * 2 + cond b 1 0) / 2) xs) (chosen ((n * 2 + cond b 1 0) / 2) xs) ≡ cond b (x ∷ those p xs) (those p xs)
    go true n e =
        let m : (n * 2 + 1) % 2 ≡ 1 = omega arith in
        let d : (n * 2 + 1) / 2 ≡ n = omega arith in
        rw (m, d, e)
    go false n e =
        let m : (n * 2 + 0) % 2 ≡ 0 = omega arith in
        let d : (n * 2 + 0) / 2 ≡ n = omega arith in
        rw (m, d, e)
