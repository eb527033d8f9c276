-- The report of the set of the selected accounts is the report of the search, and the set is empty exactly where no account is selected. Assumes nothing.
use mathlib.Core.Path.{◌≡◌, refl, sym, ap, ap₂, ◌∙◌, subst}
use mathlib.Core.Bool.{Bool, true, false, not, cond, ◌||◌}
use mathlib.Core.List.{List, [], ◌∷◌, ◌++◌, map}
use Prim.Native.Nat.{ℕ, zero, suc, ◌+◌, ◌*◌, ◌^◌, ◌≤◌, ◌<◌}
use native.Mathlib.Omega.{arith}
use lib.Count.{ones}
use lib.Dec.{eqb}
use borrow.Author.Tests.{ne_eqb}
use lib.ListN.{length, length-map}
use Rattle.rules.specs.Account as Rule
use Rattle.rules.specs.Command.{Condition, some?}
use Rattle.rules.specs.Search.{selects, those, selected, found_blocks, search_report}
use Rattle.search_selection.proofs.Marks.{marked_those}
use Rattle.search_set.specs.Sets.{set_of, chosen}
use Rattle.search_set.proofs.Laws.{chosen_size, set_below}
use Rattle.octet_writer.specs.Written.{Written}
use Rattle.report_search.proofs.Shown.{blocks_most}

module _ (cs : List Condition) (xs : List Rule.Account) (set : ℕ) (e : set ≡ set_of (map (selects cs) xs)) where
  pub found_below : set < 2 ^ length xs
  found_below = rw e (rw length-map at (set_below (map (selects cs) xs)))

  found_those : chosen set xs ≡ selected cs xs
  unfolding selected
  found_those = ap (λ (n : ℕ). chosen n xs) e ∙ marked_those (selects cs) xs

  found_size : ones set ≡ length (selected cs xs)
  found_size = sym (chosen_size set xs found_below) ∙ ap length found_those

  pub found_report : (s : ℕ) (l out : List ℕ) (j : ℕ) → Written l 0 ((ones set ∷ []) ++ found_blocks s xs (chosen set xs)) out j → Written l 0 (search_report s xs cs) out j
  unfolding search_report
  found_report s l out j w =
      subst (λ (bs : List ℕ). Written l 0 bs out j) (ap₂ (λ (n : ℕ) (ys : List Rule.Account). (n ∷ []) ++ found_blocks s xs ys) found_size found_those) w

-- ---- 21

-- some account is selected exactly where the set is not empty
pub found_some : (p : Rule.Account → Bool) (xs : List Rule.Account) → not (eqb (set_of (map p xs)) 0) ≡ some? p xs
unfolding set_of some?
found_some p [] = refl
found_some p (x ∷ xs) = go (p x) (set_of (map p xs)) (found_some p xs)
  where
    twice : (n : ℕ) → eqb (n * 2 + 0) 0 ≡ eqb n 0
    twice zero = refl
    twice (suc n) = ne_eqb (suc n * 2 + 0) 0 (λ e. absurd (omega arith)) ∙ sym (ne_eqb (suc n) 0 (λ e. absurd (omega arith)))

    go : (b : Bool) (n : ℕ) → not (eqb n 0) ≡ some? p xs → not (eqb (n * 2 + cond b 1 0) 0) ≡ (b || some? p xs)
    go true n i = ap not (ne_eqb (n * 2 + 1) 0 (λ e. absurd (omega arith)))
    go false n i = ap not (twice n) ∙ i

-- ---- how long a report can be

those_most : (p : Rule.Account → Bool) (xs : List Rule.Account) → length (those p xs) ≤ length xs
unfolding those
those_most p [] = omega arith
those_most p (x ∷ xs) =
    let i = those_most p xs in
    elim (p x) as (λ b. length (cond b (x ∷ those p xs) (those p xs)) ≤ length (x ∷ xs)) [ true ↦ omega (arith, i) | false ↦ omega (arith, i) ]

-- 1 byte and 64 times 57 bytes at most
pub report_most : (s : ℕ) (xs : List Rule.Account) (cs : List Condition) → length xs ≤ 64 → length (search_report s xs cs) ≤ 3649
unfolding search_report selected
report_most s xs cs h = omega (arith, blocks_most s xs (those (selects cs) xs), those_most (selects cs) xs)
