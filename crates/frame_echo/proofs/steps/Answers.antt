-- The loop's invariant: what came of the lines passed, and the line ends that are left. Assumes nothing.
use borrow.Author.Rules.{rules}
use mathlib.Core.List.{◌∷◌}
use mathlib.Core.Path.{refl, ap, ◌∙◌}
use native.Mathlib.Omega.{arith}
use lib.ListN.{length}
use Rattle.frame_echo.proofs.Begun.{Passed, LineFits, none_passed, line_fits, line_passed, text_passed}
use Rattle.frame_echo.proofs.steps.Goals.{In-Some}
use Rattle.frame_echo.proofs.steps.Goals as goal

pub loop-end-init : goal.loop-end-init
loop-end-init c = ((refl, refl), none_passed (c.into_iter-end-iterator.ensures.into_iter_gives ∙ c.memchr_iter-end-items.ensures.value) c.new-w.ensures.2)

-- the next line end
next : (c : In-Some)
    → Passed c.args.text.now c.args.line.now.items c.loop-end.from (c.in-Some.end ∷ c.next.new.self) c.new-w.result.out.now c.loop-end.w.out.now c.loop-end.line.items c.loop-end.w.at
next c = rw c.in-Some.ensures.steps at c.loop-end.invariant.1

fits : (c : In-Some) → LineFits c.args.text.now c.args.line.now.items c.loop-end.line.items c.loop-end.from c.in-Some.end c.loop-end.w.at
fits c = line_fits _ _ _ _ _ _ _ _ _ (next c)

pub slice_bounds-step-count : goal.slice_bounds-step-count
slice_bounds-step-count c = (fits (goal.at.slice_bounds-step-count c).In-Some).ahead

pub slice_bounds-step-start : goal.slice_bounds-step-start
slice_bounds-step-start c = let f = fits (goal.at.slice_bounds-step-start c).In-Some in omega (arith, f.ahead, f.inside)

pub slice_bounds-step-end : goal.slice_bounds-step-end
slice_bounds-step-end c = let f = fits (goal.at.slice_bounds-step-end c).In-Some in omega (arith, f.ahead, f.inside)

pub step-requires : goal.step-requires
step-requires c = omega (arith, (fits (goal.at.step-requires c).In-Some).room, c.loop-end.invariant.0.1, ap length c.new-w.ensures.1, c.requires)

pub loop-end-preserved : goal.loop-end-preserved
loop-end-preserved c =
    (search rules, line_passed _ _ _ _ _ _ _ _ _ _ _ _ c.step.ensures.fits (next (goal.at.loop-end-preserved c).In-Some) c.step.ensures.echo c.step.ensures.begun)

pub returns : goal.returns
returns c =
    let p = rw c.in-None.ensures.steps.0 at c.loop-end.invariant.1 in
    let e = rw c.new-w.ensures.1 at (text_passed _ _ _ _ _ _ _ _ c.grow.ensures.fits p c.grow.ensures.kept) in
    search rules
