-- Items as records, and what is asked of one by its code. Assumes nothing.
use Rattle.std.specs.Prelude.{Bool, true, not, ◌||◌, List, ℕ, ℤ, Option, Some, None}
use Rattle.amount.specs.Amount.{is_limit}
use Rattle.rules.specs.Account.{Account, at}
use Rattle.rules.specs.Command as Rule
use Rattle.rules.specs.Message.{named, is_branch_of, later}
use Rattle.command.specs.declared.Header.{Header}
use Rattle.message_items.specs.declared.Item.{Item}

abbrev pub record_of : Rule.Item → Item
record_of i = record { code = named i.account; kind = i.type; value = Some i.value }

-- check 6: a deletion has no value
abbrev pub is_ranged : Option ℤ → Bool
is_ranged None = true
is_ranged (Some v) = is_limit v

-- check 18
abbrev pub is_later_in : Header → List Account → ℕ → Bool
is_later_in h xs c = not (is_branch_of h.sender c xs) || later (at c xs).moment (record { day = h.day; second = h.second })
