-- One item more is set. Assumes nothing.
use Rattle.std.proofs.Common.{sym, ap, ◌∙◌, List, drop_of_length-le}
use Rattle.command.specs.View.{to_header}
use Rattle.message_items.specs.declared.Item.{Item}
use Rattle.message_limits.specs.Setting.{in_use, set_records}
use Rattle.message_limits.proofs.Sets.{set_next}
use Rattle.message_limits.proofs.set_items.Goals as goal

pub loop-item-preserved : goal.loop-item-preserved
loop-item-preserved c = (
  c.store.ensures.listed,
  set_next _ c.args.items.now c.loop-item.item-index _ _ _ c.loop-item-test.true c.store.ensures.accounts ∙ c.loop-item.invariant.1,
  c.store.ensures.rest ∙ c.loop-item.invariant.2,
)

pub returns-clause-accounts : goal.returns-clause-accounts
returns-clause-accounts c =
    ap (λ (is : List Item). set_records (to_header c.args.header) is (in_use c.loop-item.accounts c.args.count)) (sym (drop_of_length-le c.args.items.now c.loop-item-test.false))
    ∙ c.loop-item.invariant.1
