-- The records of a change's items, set one after the other, are its items. Assumes nothing.
use Rattle.std.proofs.Common.{◌≡◌, refl, List, [], ◌∷◌, map}
use Rattle.rules.specs.Account.{Account}
use Rattle.rules.specs.Command.{Header, Item}
use Rattle.rules.specs.Message.{set_item, set_items}
use Rattle.message_items.specs.Records.{record_of}
use Rattle.message_limits.specs.Setting.{set_records}

pub records_set : (h : Header) (is : List Item) (xs : List Account) → set_records h (map record_of is) xs ≡ set_items h is xs
unfolding set_items set_item
records_set h [] xs = refl
records_set h (i ∷ is) xs = records_set h is (set_item h i xs)
