-- An answer line says one answer and one report: whoever reads the bytes knows both. Assumes nothing.
use mathlib.Core.Path.{◌≡◌, refl, sym, ap, ap₂, ◌∙◌}
use mathlib.Core.Bool.{Bool, true, false, cond}
use mathlib.Core.List.{List, [], ◌∷◌, ◌++◌, append_assoc}
use Prim.Native.Nat.{ℕ, ◌+◌, ◌/◌, ◌%◌, ◌≤◌}
use native.Mathlib.Omega.{arith}
use lib.Dec.{ltb}
use lib.ListN.{get_or, drop}
use borrow.Author.Tests.{ltb-true}
use Rattle.frame.specs.Hex.{hex_digit, hex}
use Rattle.lines.specs.Text.{printed}

-- ---- a list's first member and the others

first_same : {a b : ℕ} {l m : List ℕ} → a ∷ l ≡ b ∷ m → a ≡ b
first_same e = ap (λ (l : List ℕ). get_or l 0 0) e

rest_same : {a b : ℕ} {l m : List ℕ} → a ∷ l ≡ b ∷ m → l ≡ m
rest_same e = ap (λ (l : List ℕ). drop 1 l) e

-- ---- digits

digit_high : (n : ℕ) → 48 ≤ hex_digit n
unfolding hex_digit
digit_high n = go (ltb n 10)
  where
    go : (q : Bool) → 48 ≤ cond q (48 + n) (87 + n)
    go true = omega arith
    go false = omega arith

digit_one : (m n : ℕ) → hex_digit m ≡ hex_digit n → m ≡ n
unfolding hex_digit
digit_one m n e = go (ltb m 10) (ltb n 10) refl refl e
  where
    go : (p q : Bool) → ltb m 10 ≡ p → ltb n 10 ≡ q → cond p (48 + m) (87 + m) ≡ cond q (48 + n) (87 + n) → m ≡ n
    go true true a b h = omega arith
    go true false a b h = absurd (omega (arith, ltb-true m 10 a))
    go false true a b h = absurd (omega (arith, ltb-true n 10 b))
    go false false a b h = omega arith

-- ---- lines

hex_one : (r s t u : List ℕ) → hex r ++ (10 ∷ t) ≡ hex s ++ (10 ∷ u) → (r ≡ s) × (t ≡ u)
unfolding hex
hex_one [] [] t u e = (refl, rest_same e)
hex_one [] (b ∷ s) t u e = absurd (omega (arith, first_same e, digit_high (b / 16)))
hex_one (a ∷ r) [] t u e = absurd (omega (arith, first_same e, digit_high (a / 16)))
hex_one (a ∷ r) (b ∷ s) t u e =
    let high : a / 16 ≡ b / 16 = digit_one _ _ (first_same e) in
    let low : a % 16 ≡ b % 16 = digit_one _ _ (first_same (rest_same e)) in
    let same : a ≡ b = omega arith in
    let rest = hex_one r s t u (rest_same (rest_same e)) in
    (ap₂ ◌∷◌ same rest.0, rest.1)

-- two answer lines with whatever stands behind them
pub printed_one : (a b : ℕ) (r s t u : List ℕ) → printed a r ++ t ≡ printed b s ++ u → (a ≡ b) × (r ≡ s) × (t ≡ u)
unfolding printed
printed_one a b r s t u e =
    let tens : a / 10 ≡ b / 10 = omega (arith, first_same e) in
    let ones : a % 10 ≡ b % 10 = omega (arith, first_same (rest_same e)) in
    let same : a ≡ b = omega arith in
    let lines = hex_one r s t u (sym (append_assoc (hex r) (10 ∷ []) t) ∙ rest_same (rest_same e) ∙ append_assoc (hex s) (10 ∷ []) u) in
    (same, lines.0, lines.1)
