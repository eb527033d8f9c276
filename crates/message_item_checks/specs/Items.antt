-- What the checks say of the items that a message names. Assumes nothing.
use Rattle.std.specs.Prelude.{Bool, List, [], ◌∷◌, ℕ}
use Rattle.std.specs.List.{list_all}
use Rattle.rules.specs.Account.{Account}
use Rattle.rules.specs.Message.{is_branch_of, is_type}
use Rattle.command.specs.declared.Header.{Header}
use Rattle.message_items.specs.declared.Item.{Item}
use Rattle.message_items.specs.Records.{is_later_in, is_ranged}
use Rattle.message_item_checks.specs.declared.Flags.{Flags}

abbrev pub item_checks : Header → List Account → List Item → List (ℕ × Bool)
item_checks h xs is =
    (18, list_all (λ i. is_later_in h xs i.code) is)
    ∷ (19, list_all (λ i. is_type i.kind) is)
    ∷ (20, list_all (λ i. is_branch_of h.sender i.code xs) is)
    ∷ (6, list_all (λ i. is_ranged i.value) is)
    ∷ []

abbrev pub flag_checks : Flags → List (ℕ × Bool)
flag_checks f =
    (18, f.later)
    ∷ (19, f.typed)
    ∷ (20, f.owned)
    ∷ (6, f.ranged)
    ∷ []
