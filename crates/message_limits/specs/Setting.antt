-- What the items of a message make of the accounts in use, one after the other. Assumes nothing.
use Rattle.std.specs.Prelude.{◌≡◌, List, [], ◌∷◌, ℕ, ℤ, Option, Some, None, map, take, length}
use Rattle.rules.specs.Account as Rule
use Rattle.rules.specs.Account.{Limit, Value, adjust}
use Rattle.rules.specs.Command.{Header}
use Rattle.rules.specs.Message.{touch, cleared}
use Rattle.account.specs.declared.Account.{Account}
use Rattle.account.specs.View.{to_account}
use Rattle.table.specs.Promise.{OwnCodes}
use Rattle.message_items.specs.declared.Item.{Item}

-- what a value sets; an item without one deletes
abbrev pub setting : Option ℤ → Limit → Limit
setting (Some v) = λ _. Value v
setting None = cleared

-- the first n of an array of accounts
abbrev pub in_use : List Account → ℕ → List Rule.Account
in_use accounts n = map to_account (take n accounts)

-- the fields of a table of which the accounts need not be the rules'
pub record Listed (codes : List ℕ) (accounts : List Account) (n : ℕ) : Type 0 where
  pub own : OwnCodes codes n (in_use accounts n)
  pub long : length accounts ≡ 64

abbrev pub set_records : Header → List Item → List Rule.Account → List Rule.Account
set_records h [] xs = xs
set_records h (i ∷ is) xs = set_records h is (adjust i.code (touch h i.kind (setting i.value)) xs)
