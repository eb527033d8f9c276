-- The loop of `play_lines`. Assumes nothing.
use mathlib.Core.Path.{◌∙◌, refl, sym, subst}
use mathlib.Core.Logic.{⊎_elim, inl, inr}
use Prim.Native.Nat.{◌≤◌, ◌+◌, ◌-◌}
use native.Mathlib.Omega.{arith}
use borrow.Author.Rules.{rules}
use lib.ListN.{length}
use Rattle.ledger.specs.Promise.{SoundLedger}
use Rattle.ledger.specs.View.{ledger_view}
use Rattle.lines.specs.Text.{answer_room}
use Rattle.lines.proofs.Next.{NextIs, next_is}
use Rattle.play_lines.specs.Run.{RunIs}
use Rattle.play_lines.proofs.Laws.{forward, fits, same_report, begin, turn, all_chosen}
use Rattle.play_lines.proofs.play_lines.Goals.{In-Some}
use Rattle.play_lines.proofs.play_lines.Goals as goal

-- in a turn: the next line's end is at or behind its start, and there is room
next : (c : In-Some) → NextIs c.args.lines.now c.loop-end.read (length c.new-w.result.out.now - c.loop-end.w.at) c.in-Some.end
next c = rw (c.len.ensures, ← c.new-w.ensures.1) at (next_is _ _ _ _ c.loop-end.invariant.0.within c.in-Some.ensures.0)

ahead : (c : In-Some) → c.loop-end.read ≤ c.in-Some.end
ahead c = forward _ _ _ _ _ _ _ _ _ _ _ c.loop-end.invariant.0 (next c) c.in-Some.ensures.1

roomy : (c : In-Some) → c.loop-end.w.at + answer_room ≤ length c.loop-end.w.out.now
roomy c = omega (arith, fits _ _ _ _ _ _ _ _ _ _ _ c.loop-end.invariant.0 (next c) c.in-Some.ensures.1, c.loop-end.invariant.1.1)

pub loop-end-init : goal.loop-end-init
unfolding ledger_view
loop-end-init c =
    (rw c.new-w.ensures.2 (begin c.args.lines.now c.new-w.result.out.now _ _ _ _ (subst SoundLedger c.l.view_is c.l.invariant)), (refl, refl), refl, refl)

pub slice_bounds-line-count : goal.slice_bounds-line-count
slice_bounds-line-count c = ahead (goal.at.slice_bounds-line-count c).In-Some

pub slice_bounds-line-start : goal.slice_bounds-line-start
slice_bounds-line-start c = ahead (goal.at.slice_bounds-line-start c).In-Some

pub write_answer-requires-clause-room : goal.write_answer-requires-clause-room
write_answer-requires-clause-room c =
    omega (arith, roomy (goal.at.write_answer-requires-clause-room c).In-Some, c.play_line-played.ensures.fits, same_report _ _ _ _ _ _ _ _ _ _ c.play_line-played.ensures, c.loop-end.invariant.2)

pub loop-end-preserved : goal.loop-end-preserved
unfolding ledger_view
loop-end-preserved c =
    let s = c.play_line-played.ensures in
    let n = next (goal.at.loop-end-preserved c).In-Some in (
      turn _ _ _ _ _ _ _ _ _ _ _ c.loop-end.invariant.0 n c.in-Some.ensures.1 _ _ _ _ _ _ _ _ refl c.loop-end.invariant.2 s c.write_answer.ensures.wrote,
      search rules,
      same_report _ _ _ _ _ _ _ _ _ _ s ∙ c.loop-end.invariant.2,
      c.play_line-played.auto.frame ∙ c.loop-end.invariant.3,
    )

pub loop-end-smaller : goal.loop-end-smaller
loop-end-smaller c = omega (arith, ahead (goal.at.loop-end-smaller c).In-Some, c.in-Some.ensures.1)

pub returns : goal.returns
unfolding ledger_view
returns c =
    let p = c.loop-end.invariant.0 in
    let n = rw (c.len.ensures, ← c.new-w.ensures.1) at (next_is _ _ _ _ p.within (sym c.in_default.ensures)) in
    let stop = n.done (omega arith) in
    subst
    (λ out. RunIs c.args.l.now c.args.lines.now c.args.out.now (record { read = c.loop-end.read; written = c.len-2.result }) c.loop-end.l out)
    {x = c.loop-end.w.out.now} (search rules)
    (rw (c.len-2.ensures, ← c.new-w.ensures.1)
    (record {
      passed = p;
      which = all_chosen _ _ _ _ _ _ _ _ _ _ p stop;
      stop = ⊎_elim (λ w. inl w) (λ w. inr (omega (arith, p.room))) stop;
    }))
