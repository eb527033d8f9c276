-- The records so far are those of the items so far. Assumes nothing.
use Rattle.std.proofs.Common.{◌≡◌, map, take}
use Rattle.arrayvec.specs.ArrayVec.{array_vec_len}
use Rattle.command.specs.View.{to_item}
use Rattle.message_items.specs.Records.{record_of}
use Rattle.message_items.proofs.records.Given as goal

abbrev pub invariant-loop-item : goal.invariant-loop-item
invariant-loop-item l = (array_vec_len l.records ≡ l.item-index) × (l.records.items ≡ map record_of (map to_item (take l.item-index l.items)))
