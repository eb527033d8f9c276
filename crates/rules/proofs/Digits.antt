-- A number and its ASCII digits give each other back. Assumes nothing.
use mathlib.Core.Path.{◌≡◌, refl, sym, ap, ap₂, ◌∙◌}
use mathlib.Core.Bool.{Bool, true, ◌&&◌}
use mathlib.Core.List.{List, [], ◌∷◌, ◌++◌, append_assoc, append-nil}
use Prim.Native.Nat.{ℕ, zero, suc, ◌+◌, ◌-◌, ◌*◌, ◌/◌, ◌%◌, ◌^◌, ◌<◌, ◌≤◌}
use native.Mathlib.Omega.{arith}
use native.Mathlib.Nat.{pow-suc}
use lib.ListN.{length, length-append}
use lib.Dec.{leb}
use lib.Arith.{digits_div, digits_mod}
use borrow.Author.Tests.{leb-true, le-leb, lt-ltb}
use Rattle.octets.specs.Octets.{are_bytes}
use Rattle.octets.proofs.Numbers.{both}
use Rattle.rules.specs.Command.{every}
use Rattle.rules.specs.Message.{is_digit, decimal, digits}

-- ---- tests

pub every_append : {A : Type 0} (p : A → Bool) (a b : List A) → every p a ≡ true → every p b ≡ true → every p (a ++ b) ≡ true
unfolding every
every_append p [] b h k = k
every_append p (x ∷ a) b h k = let q = both (p x) (every p a) h in ap₂ ◌&&◌ q.0 (every_append p a b q.1 k)

pub between : (a n b : ℕ) → (leb a n && leb n b) ≡ true → (a ≤ n) × (n ≤ b)
between a n b h = let q = both (leb a n) (leb n b) h in (leb-true a n q.0, leb-true n b q.1)

-- ---- one digit

pub digit_range : (d : ℕ) → is_digit d ≡ true → (48 ≤ d) × (d ≤ 57)
unfolding is_digit
digit_range d h = between 48 d 57 h

pub range_digit : (d : ℕ) → 48 ≤ d → d ≤ 57 → is_digit d ≡ true
unfolding is_digit
range_digit d lo hi = ap₂ ◌&&◌ (le-leb 48 d lo) (le-leb d 57 hi)

pub digits_bytes : (ds : List ℕ) → every is_digit ds ≡ true → are_bytes ds ≡ true
unfolding every are_bytes
digits_bytes [] h = refl
digits_bytes (d ∷ ds) h =
    let q = both (is_digit d) (every is_digit ds) h in
    ap₂ ◌&&◌ (lt-ltb d 256 (omega (arith, (digit_range d q.0).1))) (digits_bytes ds q.1)

-- ---- the digits of a number

pub length_digits : (k n : ℕ) → length (digits k n) ≡ k
unfolding digits
length_digits zero n = refl
length_digits (suc k) n = omega (arith, length-append (digits k (n / 10)) ((48 + n % 10) ∷ []), length_digits k (n / 10))

pub digits_digits : (k n : ℕ) → every is_digit (digits k n) ≡ true
unfolding digits every
digits_digits zero n = refl
digits_digits (suc k) n =
    every_append is_digit (digits k (n / 10)) ((48 + n % 10) ∷ []) (digits_digits k (n / 10))
    (ap (λ (t : Bool). t && true) (range_digit (48 + n % 10) (omega arith) (omega arith)))

-- ---- there and back

decimal_append : (n : ℕ) (a b : List ℕ) → decimal n (a ++ b) ≡ decimal (decimal n a) b
unfolding decimal
decimal_append n [] b = refl
decimal_append n (d ∷ a) b = decimal_append (n * 10 + (d - 48)) a b

pub decimal_digits : (k n : ℕ) → n < 10 ^ k → decimal 0 (digits k n) ≡ n
unfolding digits decimal
decimal_digits zero n h = omega arith
decimal_digits (suc k) n h =
    decimal_append 0 (digits k (n / 10)) ((48 + n % 10) ∷ [])
    ∙ ap (λ (m : ℕ). m * 10 + (48 + n % 10 - 48)) (decimal_digits k (n / 10) (omega (arith, pow-suc 10 k)))
    ∙ omega arith

digits_decimal_from : (k n : ℕ) (ds : List ℕ) → every is_digit ds ≡ true → digits (k + length ds) (decimal n ds) ≡ digits k n ++ ds
unfolding digits decimal every
digits_decimal_from k n [] h = let e : k + 0 ≡ k = omega arith in rw e (sym (append-nil (digits k n)))
digits_decimal_from k n (d ∷ ds) h =
    let q = both (is_digit d) (every is_digit ds) h in
    let r = digit_range d q.0 in
    let s : d - 48 < 10 = omega arith in
    let e : k + suc (length ds) ≡ suc k + length ds = omega arith in
    let f : 48 + (d - 48) ≡ d = omega arith in
    rw e (digits_decimal_from (suc k) (n * 10 + (d - 48)) ds q.1
    ∙ append_assoc (digits k ((n * 10 + (d - 48)) / 10)) ((48 + (n * 10 + (d - 48)) % 10) ∷ []) ds
    ∙ rw (digits_div n s, digits_mod n s, f))

pub digits_decimal : (ds : List ℕ) → every is_digit ds ≡ true → digits (length ds) (decimal 0 ds) ≡ ds
unfolding digits
digits_decimal ds h = let e : length ds ≡ 0 + length ds = omega arith in ap (λ (k : ℕ). digits k (decimal 0 ds)) e ∙ digits_decimal_from 0 0 ds h

decimal_below_from : (j n : ℕ) (ds : List ℕ) → n < 10 ^ j → every is_digit ds ≡ true → decimal n ds < 10 ^ (j + length ds)
unfolding decimal every
decimal_below_from j n [] h k = let e : j + 0 ≡ j = omega arith in rw e h
decimal_below_from j n (d ∷ ds) h k =
    let q = both (is_digit d) (every is_digit ds) k in
    let r = digit_range d q.0 in
    let e : j + suc (length ds) ≡ suc j + length ds = omega arith in
    rw e (decimal_below_from (suc j) (n * 10 + (d - 48)) ds (omega (arith, pow-suc 10 j)) q.1)

pub decimal_below : (ds : List ℕ) → every is_digit ds ≡ true → decimal 0 ds < 10 ^ length ds
decimal_below ds h = let e : 0 + length ds ≡ length ds = omega arith in rw e at (decimal_below_from 0 0 ds (omega arith) h)
