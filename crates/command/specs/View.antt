-- A program's command as that of the rules. Assumes nothing.
use Rattle.std.specs.Prelude.{List, [], ◌∷◌, ℕ, zero, suc, pos, get_or, Option, Some, None}
use Rattle.rules.specs.Command as Rule
use Rattle.frame_fields.specs.Conditions.{conditions_in}
use Rattle.command.specs.declared.Header.{Header}
use Rattle.command.specs.declared.ChangeItem.{ChangeItem}
use Rattle.command.specs.declared.Command.{Command}
use Rattle.command.specs.declared.Command.TheVariants.{Bank, Branch, Funding, Withdrawal, BankLimits, Payment, Change, Deletion, Query, Opening, Search, Letters, Mark}

-- the header of a message
unfoldable pub to_header : Header → Rule.Header
to_header h = record { sender = h.sender; id = h.id; moment = record { day = h.day; second = h.second } }

-- an item of a change
unfoldable pub to_item : ChangeItem → Rule.Item
to_item i = record { account = i.account; type = i.kind; value = i.value }

-- what is read past the end of an array of items
abbrev pub no_item : ChangeItem
no_item = record { account = []; kind = 0; value = pos 0 }

-- n items from the place i on
unfoldable pub items_from : ℕ → ℕ → List ChangeItem → List Rule.Item
items_from i zero items = []
items_from i (suc n) items = to_item (get_or items i no_item) ∷ items_from (suc i) n items

-- n account ids from the place i on
unfoldable pub ids_from : ℕ → ℕ → List (List ℕ) → List (List ℕ)
ids_from i zero ids = []
ids_from i (suc n) ids = get_or ids i [] ∷ ids_from (suc i) n ids

unfoldable pub to_command : Command → Rule.Command
to_command (Bank c) = Rule.Bank c
to_command (Branch c o l p) = Rule.Branch c o l p
to_command (Funding c a) = Rule.Funding c a
to_command (Withdrawal c a) = Rule.Withdrawal c a
to_command (BankLimits c l p) = Rule.BankLimits c l p
to_command (Payment p) = Rule.Payment p.way p.sender p.receiver p.amount
to_command (Change h items) = Rule.Change (to_header h) (items_from 0 items.count items.rows)
to_command (Deletion h id t) = Rule.Deletion (to_header h) id t
to_command (Query h ids) = Rule.Query (to_header h) (ids_from 0 ids.count ids.rows)
to_command (Opening d) = Rule.Opening d
to_command (Search h conditions) = Rule.Search (to_header h) (conditions_in conditions.count conditions.texts)
to_command (Letters c l) = Rule.Letters c l
to_command (Mark c) = Rule.Mark c

-- a command, or none
unfoldable pub commands : Option Command → List Rule.Command
commands None = []
commands (Some c) = to_command c ∷ []
