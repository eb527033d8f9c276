-- What is written is read back: the laws of the trait cite it. Assumes nothing.
use mathlib.Core.Path.{◌≡◌, refl, ap, ◌∙◌}
use mathlib.Core.Bool.{Bool, true, cond}
use mathlib.Core.List.{List, [], ◌∷◌, ◌++◌}
use Prim.Native.Nat.{ℕ, zero, suc, ◌+◌, ◌-◌, ◌*◌, ◌/◌, ◌%◌, ◌^◌, ◌<◌}
use native.Mathlib.Omega.{arith}
use native.Mathlib.Nat.{pow-suc}
use lib.IntN.{ℤ, pos, negsuc}
use borrow.Author.Tests.{ltb-true, le-ltb}
use Rattle.octets.specs.Octets.{big_endian, number_from, number, twos, signed, is_money, money}

pub number_from_append : (n : ℕ) (a b : List ℕ) → number_from n (a ++ b) ≡ number_from (number_from n a) b
unfolding number_from
number_from_append n [] b = refl
number_from_append n (x ∷ a) b = number_from_append (n * 256 + x) a b

pub number_big_endian : (k n : ℕ) → n < 256 ^ k → number (big_endian k n) ≡ n
unfolding big_endian number number_from
number_big_endian zero n h = omega arith
number_big_endian (suc k) n h =
    number_from_append 0 (big_endian k (n / 256)) (n % 256 ∷ [])
    ∙ ap (λ (m : ℕ). m * 256 + n % 256) (number_big_endian k (n / 256) (omega (arith, pow-suc 256 k)))
    ∙ omega arith

pub byte_back : (n : ℕ) → number (n ∷ []) ≡ n
unfolding number number_from
byte_back n = omega arith

pub twos_below : (z : ℤ) → is_money z ≡ true → twos z < 2 ^ 64
unfolding is_money twos
twos_below (pos n) h = omega (arith, ltb-true n (2 ^ 63) h)
twos_below (negsuc n) h = omega arith

pub signed_twos : (z : ℤ) → is_money z ≡ true → signed (twos z) ≡ z
unfolding is_money twos signed
signed_twos (pos n) h = ap (λ (t : Bool). cond t (pos n) (negsuc (2 ^ 64 - suc n))) h
signed_twos (negsuc n) h =
    let s : n < 2 ^ 63 = ltb-true n (2 ^ 63) h in
    rw (le-ltb (2 ^ 64 - suc n) (2 ^ 63) (omega arith)) (ap negsuc (omega arith))

pub money_back : (z : ℤ) → is_money z ≡ true → signed (number (money z)) ≡ z
unfolding money
money_back z h = ap signed (number_big_endian 8 (twos z) (twos_below z h)) ∙ signed_twos z h
