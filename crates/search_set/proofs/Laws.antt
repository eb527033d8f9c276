-- Laws of sets of places: one place more, the lowest place and the rest, how many there are, and the set made of flags. Assumes nothing.
use mathlib.Core.Path.{◌≡◌, refl, sym, ap, ◌∙◌}
use mathlib.Core.Bool.{Bool, true, false, cond}
use mathlib.Core.List.{List, [], ◌∷◌, ◌++◌}
use Prim.Native.Nat.{ℕ, zero, suc, ◌+◌, ◌-◌, ◌*◌, ◌/◌, ◌%◌, ◌^◌, ◌≤◌, ◌<◌}
use native.Mathlib.Omega.{arith}
use native.Mathlib.Nat.{mod-eq_of_lt, pow-suc}
use lib.ListN.{length, get_or}
use lib.Bits.{bit_and, bit_or, and_step, and_self, or_shifted_r}
use lib.Count.{ones, ones_step, count_trailing_zeros, under}
use lib.Pow.{pow-lt}
use Rattle.search_set.specs.Sets.{set_of, chosen}

-- ---- one place more

pub set_place : (n i : ℕ) → i < 64 → n < 2 ^ i → bit_or n ((1 * 2 ^ i) % 2 ^ 64) ≡ n + 2 ^ i
set_place n i h g =
    let e : (1 * 2 ^ i) % 2 ^ 64 ≡ 1 * 2 ^ i = mod-eq_of_lt (omega (arith, pow-lt h)) in
    ap (bit_or n) e ∙ or_shifted_r 1 i n g ∙ omega arith

-- ---- the lowest place and the rest

-- the lowest digit taken off
clear_odd : (n : ℕ) → n % 2 ≡ 1 → bit_and n (n - 1) ≡ n / 2 * 2
clear_odd n h =
    let d : (n - 1) / 2 ≡ n / 2 = omega arith in
    let m : (n - 1) % 2 ≡ 0 = omega arith in
    and_step n (n - 1) ∙ rw (d, m, h, and_self (n / 2)) (omega arith)

clear_even : (n : ℕ) → n % 2 ≡ 0 → 0 < n → bit_and n (n - 1) ≡ bit_and (n / 2) (n / 2 - 1) * 2
clear_even n h p =
    let d : (n - 1) / 2 ≡ n / 2 - 1 = omega arith in
    let m : (n - 1) % 2 ≡ 1 = omega arith in
    and_step n (n - 1) ∙ rw (d, m, h) (omega arith)

-- the lowest place is below as many digits as the set has
pub first_below : (k n j : ℕ) → j ≤ k → 0 < n → n < 2 ^ j → count_trailing_zeros k n < j
unfolding count_trailing_zeros
first_below k n zero h p q = absurd (omega arith)
first_below zero n (suc j) h p q = absurd (omega arith)
first_below (suc k) n (suc j) h p q = go (n % 2) refl (first_below k (n / 2) j (omega arith))
  where
    go : (r : ℕ) → n % 2 ≡ r → (0 < n / 2 → n / 2 < 2 ^ j → count_trailing_zeros k (n / 2) < j) → under r (count_trailing_zeros k (n / 2)) < suc j
    go zero e rest = omega (arith, rest (omega arith) (omega (arith, pow-suc 2 j)))
    go (suc r) e rest = omega arith

none_set : ones 0 ≡ 0
unfolding ones
none_set = refl

module _ {A : Type 0} where
  chosen_odd : (n : ℕ) (a : A) (l : List A) → n % 2 ≡ 1 → chosen n (a ∷ l) ≡ a ∷ chosen (n / 2) l
  unfolding chosen
  chosen_odd n a l h = rw h

  chosen_even : (n : ℕ) (a : A) (l : List A) → n % 2 ≡ 0 → chosen n (a ∷ l) ≡ chosen (n / 2) l
  unfolding chosen
  chosen_even n a l h = rw h

  chosen_twice : (n : ℕ) (a : A) (l : List A) → chosen (n * 2) (a ∷ l) ≡ chosen n l
  chosen_twice n a l =
      let e : n * 2 / 2 ≡ n = omega arith in
      chosen_even (n * 2) a l (omega arith) ∙ ap (λ (m : ℕ). chosen m l) e

  -- a set that is not empty gives the member at its lowest place first, and then what the rest gives
  pub chosen_next : (k n : ℕ) (l : List A) (d : A) → length l ≤ k → 0 < n → n < 2 ^ length l
      → chosen n l ≡ get_or l (count_trailing_zeros k n) d ∷ chosen (bit_and n (n - 1)) l
  unfolding count_trailing_zeros
  chosen_next k n [] d h p q = absurd (omega arith)
  chosen_next zero n (a ∷ l) d h p q = absurd (omega arith)
  chosen_next (suc k) n (a ∷ l) d h p q = go (n % 2) refl (chosen_next k (n / 2) l d (omega arith))
    where
      go : (r : ℕ) → n % 2 ≡ r → (0 < n / 2 → n / 2 < 2 ^ length l → chosen (n / 2) l ≡ get_or l (count_trailing_zeros k (n / 2)) d ∷ chosen (bit_and (n / 2) (n / 2 - 1)) l)
          → chosen n (a ∷ l) ≡ get_or (a ∷ l) (under r (count_trailing_zeros k (n / 2))) d ∷ chosen (bit_and n (n - 1)) (a ∷ l)
      go zero e rest =
          chosen_even n a l e
          ∙ rest (omega arith) (omega (arith, pow-suc 2 (length l)))
          ∙ ap (λ (m : List A). get_or l (count_trailing_zeros k (n / 2)) d ∷ m)
          (sym (ap (λ (m : ℕ). chosen m (a ∷ l)) (clear_even n e p) ∙ chosen_twice (bit_and (n / 2) (n / 2 - 1)) a l))
      go (suc zero) e rest =
          chosen_odd n a l e ∙ ap (λ (m : List A). a ∷ m) (sym (ap (λ (m : ℕ). chosen m (a ∷ l)) (clear_odd n e) ∙ chosen_twice (n / 2) a l))
      go (suc (suc r)) e rest = absurd (omega arith)

  pub chosen_none : (l : List A) → chosen 0 l ≡ []
  unfolding chosen
  chosen_none [] = refl
  chosen_none (a ∷ l) = chosen_none l

  -- ---- how many

  pub chosen_size : (n : ℕ) (l : List A) → n < 2 ^ length l → length (chosen n l) ≡ ones n
  unfolding chosen
  chosen_size n [] h = let e : n ≡ 0 = omega arith in rw e (sym none_set)
  chosen_size n (a ∷ l) h = go (n % 2) refl (chosen_size (n / 2) l (omega (arith, pow-suc 2 (length l))))
    where
      go : (r : ℕ) → n % 2 ≡ r → length (chosen (n / 2) l) ≡ ones (n / 2) → length (chosen n (a ∷ l)) ≡ ones n
      go zero e i = omega (arith, ap length (chosen_even n a l e), i, ones_step n)
      go (suc zero) e i = omega (arith, ap length (chosen_odd n a l e), i, ones_step n)
      go (suc (suc r)) e i = absurd (omega arith)

-- ---- the set of flags

pub set_below : (bs : List Bool) → set_of bs < 2 ^ length bs
unfolding set_of
set_below [] = omega arith
set_below (true ∷ bs) = omega (arith, set_below bs, pow-suc 2 (length bs))
set_below (false ∷ bs) = omega (arith, set_below bs, pow-suc 2 (length bs))

pub set_more : (bs : List Bool) → set_of (bs ++ (true ∷ [])) ≡ set_of bs + 2 ^ length bs
unfolding set_of
set_more [] = refl
set_more (b ∷ bs) = omega (arith, set_more bs, pow-suc 2 (length bs))

pub set_same : (bs : List Bool) → set_of (bs ++ (false ∷ [])) ≡ set_of bs
unfolding set_of
set_same [] = refl
set_same (b ∷ bs) = ap (λ (n : ℕ). n * 2 + cond b 1 0) (set_same bs)
