use mathlib.Core.Path.{◌≡◌, refl, sym, ◌∙◌}
use mathlib.Core.Bool.{◌||◌}
use Prim.Native.Nat.{◌+◌, ◌-◌, ◌≤◌}
use native.Mathlib.Omega.{arith}
use lib.ListN.{length, drop}
use Rattle.rules.specs.Command.{some?}
use Rattle.rules.specs.Search as Search
use Rattle.frame_fields.specs.Conditions.{conditions_in}
use Rattle.frame_fields.proofs.Walk.{behind, walk_room, walk_lent_form, walk_test, walk_rest, walk_none}
use Rattle.search_selection.proofs.meets_one.Goals.{In-loop-left, After-meets}
use Rattle.search_selection.proofs.meets_one.Goals as goal

room : (c : In-loop-left) → behind c.args.b.now c.loop-left.at ≤ length c.args.b.now
room c = walk_room _ c.loop-left.at c.loop-left.left c.loop-left-test.true c.loop-left.invariant.0

pub loop-left-init : goal.loop-left-init
loop-left-init c = (c.requires.0, refl)

pub bounds-b-at : goal.bounds-b-at
bounds-b-at c = omega (arith, room (goal.at.bounds-b-at c).In-loop-left)

pub overflow_add-from : goal.overflow_add-from
overflow_add-from c = omega (arith, room (goal.at.overflow_add-from c).In-loop-left)

pub overflow_add-at : goal.overflow_add-at
overflow_add-at c = omega (arith, room (goal.at.overflow_add-at c).In-loop-left)

pub bounds-b-at-in-loop-left : goal.bounds-b-at-in-loop-left
bounds-b-at-in-loop-left c = omega (arith, room (goal.at.bounds-b-at-in-loop-left c).In-loop-left)

pub overflow_add-end : goal.overflow_add-end
overflow_add-end c = omega (arith, room (goal.at.overflow_add-end c).In-loop-left, c.from.ensures)

pub slice_bounds-meets-end : goal.slice_bounds-meets-end
slice_bounds-meets-end c = omega (arith, room (goal.at.slice_bounds-meets-end c).In-loop-left, c.from.ensures)

pub meets-requires : goal.meets-requires
meets-requires c =
    (c.requires.1, walk_lent_form c.args.b.now c.loop-left.at c.loop-left.left c.loop-left-test.true c.loop-left.invariant.0 c.from.result c.from.ensures)

test : (c : After-meets)
    → some? (Search.meets c.args.id.now)
    (conditions_in c.loop-left.left (drop c.loop-left.at c.args.b.now))
    ≡ (c.meets.result || some? (Search.meets c.args.id.now)
    (conditions_in (c.loop-left.left - 1) (drop (c.loop-left.at + 2 + c.from.result) c.args.b.now)))
test c =
    walk_test c.args.b.now c.loop-left.at c.loop-left.left c.loop-left-test.true c.loop-left.invariant.0 c.from.result c.from.ensures (Search.meets c.args.id.now) c.meets.result c.meets.ensures

pub returns-then-meets : goal.returns-then-meets
returns-then-meets c =
    sym (c.loop-left.invariant.1 ∙ test (goal.at.returns-then-meets c).After-meets ∙ rw c.if-meets.true)

pub loop-left-preserved : goal.loop-left-preserved
loop-left-preserved c =
    (walk_rest c.args.b.now c.loop-left.at c.loop-left.left c.loop-left-test.true c.loop-left.invariant.0 c.from.result c.from.ensures, c.loop-left.invariant.1 ∙ test (goal.at.loop-left-preserved c).After-meets ∙ rw c.if-meets.false)

pub returns : goal.returns
returns c =
    let z : c.loop-left.left ≡ 0 = omega arith in
    sym (c.loop-left.invariant.1 ∙ rw z (walk_none _ _))
