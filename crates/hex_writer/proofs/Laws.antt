-- Laws of digits written one byte at a time. Assumes nothing.
use mathlib.Core.Path.{◌≡◌, refl, sym, ap, ap₂, ◌∙◌}
use mathlib.Core.List.{List, [], ◌∷◌, ◌++◌}
use Prim.Native.Nat.{ℕ, ◌+◌, ◌*◌, ◌/◌, ◌%◌, ◌<◌}
use native.Mathlib.Numerals.{add-one}
use native.Mathlib.Omega.{arith}
use lib.ListN.{length, take, get_or, set}
use lib.Seq.{take-suc}
use Rattle.octets.specs.Octets.{write}
use Rattle.octet_writer.specs.Written.{Written}
use Rattle.octet_writer.proofs.Laws.{written_same, written_then}
use Rattle.frame.specs.Hex.{hex_digit, hex}

pub hex_length : (l : List ℕ) → length (hex l) ≡ 2 * length l
unfolding hex
hex_length [] = refl
hex_length (b ∷ t) = omega (arith, hex_length t)

hex_snoc : (l : List ℕ) (b : ℕ) → hex (l ++ (b ∷ [])) ≡ hex l ++ (hex_digit (b / 16) ∷ hex_digit (b % 16) ∷ [])
unfolding hex
hex_snoc [] b = refl
hex_snoc (a ∷ t) b = ap (λ (l : List ℕ). hex_digit (a / 16) ∷ hex_digit (a % 16) ∷ l) (hex_snoc t b)

-- nothing is written yet
pub hex_none : {l : List ℕ} {i : ℕ} (r : List ℕ) → Written l i (hex (take 0 r)) l i
unfolding hex write
hex_none r = record { bytes = refl; behind = omega arith }

-- a byte stored at its place
pub stored : (l : List ℕ) (i b j : ℕ) → j ≡ i + 1 → Written l i (b ∷ []) (set l i b) j
unfolding write
stored l i b j e = record { bytes = refl; behind = e }

-- one byte more
pub hex_more : {l m n o : List ℕ} {at j p q d e : ℕ} (r : List ℕ) (i : ℕ) → i < length r → Written l at (hex (take i r)) m j → Written m j (d ∷ []) n p → Written n p (e ∷ []) o q
    → d ≡ hex_digit (get_or r i 0 / 16) → e ≡ hex_digit (get_or r i 0 % 16) → Written l at (hex (take (i + 1) r)) o q
hex_more r i h w x y a b =
    written_same (ap₂ (λ a b. hex (take i r) ++ (a ∷ b ∷ [])) a b ∙ sym (rw (add-one i, take-suc r i 0 h) (hex_snoc (take i r) (get_or r i 0))))
    (written_then w (written_then x y))
