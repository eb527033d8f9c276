-- The items from this one on, set on the accounts as they are, make what all of them make, and what stands behind those in use is as it was. Assumes nothing.
use Rattle.std.proofs.Common.{◌≡◌, drop}
use Rattle.command.specs.View.{to_header}
use Rattle.message_limits.specs.Setting.{in_use, Listed, set_records}
use Rattle.message_limits.proofs.set_items.Given as goal

abbrev pub invariant-loop-item : goal.invariant-loop-item
invariant-loop-item l =
    (Listed l.codes l.accounts l.count)
    × (set_records (to_header l.header) (drop l.item-index l.items) (in_use l.accounts l.count) ≡ set_records (to_header l.header) l.items (in_use l.initial.accounts l.count))
    × (drop l.count l.accounts ≡ drop l.count l.initial.accounts)
