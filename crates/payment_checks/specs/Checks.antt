-- The checks of a payment by what was found in the table. Assumes nothing.
use Rattle.std.specs.Prelude.{Bool, not, List, [], ◌∷◌, ℕ, ℤ, eqb}
use Rattle.amount.specs.Amount.{is_amount}
use Rattle.rules.specs.Account.{Account}
use Rattle.rules.specs.Command.{Payment, well_formed}
use Rattle.rules.specs.Payment.{condition_checks}
use Rattle.payment_letters.specs.Sides.{sides_pass}

-- the first four checks; the flag says whether both parties are known
unfoldable pub early_checks : ℕ → ℕ → ℕ → ℤ → Bool → List (ℕ × Bool)
early_checks w s r a known = (1, well_formed (Payment w s r a)) ∷ (4, known) ∷ (7, not (eqb s r)) ∷ (6, is_amount a) ∷ []

-- the other checks, of the payer x with its bank b and the payee y with its bank d: inside one group, where b and d have one code
unfoldable pub party_checks : Bool → ℕ → Account → Account → Account → Account → List (ℕ × Bool)
party_checks credit n x b y d = (25, sides_pass credit x b y d) ∷ condition_checks credit n (eqb b.code d.code) x b y d
