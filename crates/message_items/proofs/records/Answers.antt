-- One record more. Assumes nothing.
use Rattle.std.proofs.Common.{rules, arith, ◌≡◌, ◌∙◌, sym, ap, ap₂, map, get_or, w64, List, [], ◌∷◌, ◌++◌, length}
use Rattle.std.proofs.lemmas.List.{take_more}
use mathlib.Core.List.{map-append}
use mir.Val.{SFits}
use mir.Facts.{to_z-of_z}
use lib.Seq.{take_all}
use Rattle.octets.specs.Octets.{part}
use Rattle.command.specs.View.{to_item, no_item}
use Rattle.message_items.specs.declared.Item.{Item}
use Rattle.message_items.specs.Records.{record_of}
use Rattle.message_items.proofs.records.Goals as goal

pub loop-item-preserved : goal.loop-item-preserved
unfolding part to_item
loop-item-preserved c =
    let x = get_or c.args.items.now c.loop-item.item-index no_item in
    let g : SFits w64 x.value = search rules in
    let a : length x.account ≡ 10 = search rules in
    let f = take_more c.args.items.now c.loop-item.item-index no_item c.loop-item-test.true in (
      search rules,
      c.push.ensures.items
          ∙ ap₂ (λ (l : List Item) (x : Item). l ++ (x ∷ [])) c.loop-item.invariant.1 (rw (c.named.ensures, to_z-of_z g, take_all 10 x.account (omega arith)))
          ∙ sym (ap (λ is. map record_of (map to_item is)) f ∙ ap (map record_of) (map-append to_item _ (x ∷ [])) ∙ map-append record_of _ (to_item x ∷ [])),
    )
