-- Conditions are passed over one by one. The invariant: those that are left are well-formed exactly when all are, and end where all do. Assumes nothing.
use mathlib.Core.Path.{◌≡◌, sym, ◌∙◌}
use Prim.Native.Nat.{◌+◌, ◌-◌, ◌<◌}
use native.Mathlib.Omega.{arith}
use lib.ListN.{drop}
use Rattle.rules.proofs.Selection.{formed}
use Rattle.frame_fields.proofs.Walk.{test_first, test_width, test_none}
use Rattle.frame_fields.proofs.conditions_end.Goals as goal

pub returns-then-not-is_form : goal.returns-then-not-is_form
returns-then-not-is_form c =
    grind (arith, c.loop.invariant.formed, test_first c.args.b.now c.loop.place (c.args.n - c.loop.counter) (omega arith) c.from-k.result (omega arith))

pub loop-preserved : goal.loop-preserved
loop-preserved c =
    let k = c.from-k.result in
    let left = c.args.n - c.loop.counter in
    let h : 0 < left = omega arith in
    let e : left - 1 ≡ c.args.n - (c.loop.counter + 1) = omega arith in
    let i = c.loop.invariant in
    let f = formed _ k (sym c.is_form.ensures ∙ c.if-not-is_form.false) in
    let first = test_first c.args.b.now c.loop.place left h k (omega arith) in
    let width = test_width c.args.b.now c.loop.place left h k (omega arith) in
    record { short = omega (arith, f.short); formed = rw (← e) (i.formed ∙ grind (arith, first)); ends = rw (← e) (i.ends ∙ width) }

pub returns : goal.returns
returns c = grind (arith, test_none (drop c.loop.place c.args.b.now))
