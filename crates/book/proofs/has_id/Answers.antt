-- The answer over all places is the answer over the first n. Assumes nothing.
use mathlib.Core.Path.{◌≡◌, refl, sym, ◌∙◌}
use mathlib.Core.List.{List}
use Prim.Native.Nat.{ℕ, ◌+◌, ◌-◌, ◌*◌}
use native.Mathlib.Omega.{arith}
use lib.ListN.{take, drop}
use Rattle.octets.specs.Octets.{part}
use Rattle.rules.specs.Command.{some?}
use Rattle.rules.specs.Message.{same_bytes, in_book}
use Rattle.book.specs.Entries.{entries_of}
use Rattle.book.proofs.Laws.{found, passed}
use Rattle.book.proofs.has_id.Goals as goal

pub loop-n-init : goal.loop-n-init
loop-n-init c days = refl

-- the place that is lent
place : (at : ℕ) (ids id : List ℕ) → same_bytes (part at 32 ids) id ≡ same_bytes (take (at + 32 - at) (drop at ids)) id
unfolding part
place at ids id = let e : at + 32 - at ≡ 32 = omega arith in rw e

pub returns-then-same_id : goal.returns-then-same_id
returns-then-same_id c days =
    let ids = c.args.ids.now in
    let n = c.loop-n.n - 1 in
    sym (c.loop-n.invariant days ∙ found c.args.id.now ids days n c.loop-n.n (omega arith) (place (n * 32) ids _ ∙ sym c.same_id.ensures ∙ c.if-same_id.true))

pub loop-n-preserved : goal.loop-n-preserved
loop-n-preserved c days =
    let ids = c.args.ids.now in
    let n = c.loop-n.n - 1 in
    c.loop-n.invariant days ∙ passed c.args.id.now ids days n c.loop-n.n (omega arith) (place (n * 32) ids _ ∙ sym c.same_id.ensures ∙ c.if-same_id.false)

pub returns : goal.returns
unfolding in_book some? entries_of
returns c days =
    let e : c.loop-n.n ≡ 0 = omega arith in
    sym (rw e at (c.loop-n.invariant days))
