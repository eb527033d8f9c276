-- The checks of a change or a deletion in two parts: of its header, and of the limits that it names. Assumes nothing.
use Rattle.std.specs.Prelude.{Bool, not, List, [], ◌∷◌, ◌++◌, ℕ}
use Rattle.rules.specs.Account.{known}
use Rattle.rules.specs.Command.{Header}
use Rattle.rules.specs.Machine.{Machine, has_book_place}
use Rattle.rules.specs.Message.{in_book, is_head, is_message_id, is_current}
use Rattle.command.specs.declared.Header as Program
use Rattle.message_items.specs.declared.Item.{Item}
use Rattle.message_item_checks.specs.Items.{item_checks}

-- the first six, of a message that is well-formed or not
unfoldable pub header_checks : Bool → Header → Machine → List (ℕ × Bool)
header_checks formed h m =
    (1, formed)
    ∷ (4, known h.sender m.accounts)
    ∷ (14, not (in_book h.id m.ids))
    ∷ (15, is_head h.sender m.accounts)
    ∷ (16, is_message_id h.id)
    ∷ (17, is_current m.day h.moment.day)
    ∷ []

-- the others
unfoldable pub named_checks : Program.Header → List Item → Machine → List (ℕ × Bool)
named_checks h is m = item_checks h m.accounts is ++ ((22, has_book_place m) ∷ [])
