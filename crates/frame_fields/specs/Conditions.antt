-- Conditions as they stand in a frame, one after the other (paper 02, request a): a mode, a length and that much text each. A byte past the end reads as 0.
-- Assumes nothing.
use Rattle.std.specs.Prelude.{◌≡◌, Bool, true, ◌&&◌, List, [], ◌∷◌, ℕ, zero, suc, ◌+◌, ◌≤◌, length, drop, get_or}
use Rattle.octets.specs.Octets.{part}
use Rattle.rules.specs.Command.{Condition, is_form}

-- the bytes of the first
unfoldable pub first_width : List ℕ → ℕ
first_width bs = 2 + get_or bs 1 0

unfoldable pub first_of : List ℕ → Condition
first_of bs = record { mode = get_or bs 0 0; text = part 2 (get_or bs 1 0) bs }

-- n of them
unfoldable pub conditions_in : ℕ → List ℕ → List Condition
conditions_in zero bs = []
conditions_in (suc n) bs = first_of bs ∷ conditions_in n (drop (first_width bs) bs)

unfoldable pub conditions_width : ℕ → List ℕ → ℕ
conditions_width zero bs = 0
conditions_width (suc n) bs = first_width bs + conditions_width n (drop (first_width bs) bs)

unfoldable pub are_conditions : ℕ → List ℕ → Bool
are_conditions zero bs = true
are_conditions (suc n) bs = is_form (get_or bs 0 0) (get_or bs 1 0) && are_conditions n (drop (first_width bs) bs)

-- n conditions stand at the beginning of the bytes
pub record ConditionsFirst (n : ℕ) (bs : List ℕ) : Type 0 where
  pub formed : are_conditions n bs ≡ true
  pub within : conditions_width n bs ≤ length bs
