-- A pass over the accounts of a table: whether there is one with a property. Assumes nothing.
use mathlib.Core.Path.{◌≡◌, refl, ap}
use mathlib.Core.Bool.{Bool, ◌||◌}
use mathlib.Core.List.{List, [], ◌∷◌, map}
use Rattle.std.specs.List.{list_any}
use Rattle.rules.specs.Account.{Account}
use Rattle.rules.specs.Command.{some?}
use Rattle.account.specs.declared.Account as Program
use Rattle.account.specs.View.{to_account}

module _ (f : Account → Bool) where
  -- what a test of the program's accounts finds
  pub some_of : (xs : List Program.Account) → list_any (λ x. f (to_account x)) xs ≡ some? f (map to_account xs)
  unfolding some?
  some_of [] = refl
  some_of (x ∷ xs) = ap (λ (b : Bool). f (to_account x) || b) (some_of xs)
