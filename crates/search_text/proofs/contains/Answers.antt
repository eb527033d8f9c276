-- A text is looked for from every place on. The outer invariant: what is left of the id, from the place start on, contains the text exactly when the id does.
-- The inner one: the text begins there exactly when its characters from k on begin at start + k. Assumes nothing.
use mathlib.Core.Path.{◌≡◌, refl, sym, ◌∙◌}
use Prim.Native.Nat.{◌+◌}
use native.Mathlib.Omega.{arith}
use lib.ListN.{drop, length-drop}
use Rattle.rules.proofs.Texts.{contains_short, contains_front}
use Rattle.search_text.proofs.Texts.{begins_end, begins_same, begins_other, contains_past}
use Rattle.search_text.proofs.contains.Goals as goal

pub starts-init : goal.starts-init
starts-init c = (omega arith, refl, refl)

pub characters-init : goal.characters-init
characters-init c =
    let e : c.starts.start + 0 ≡ c.starts.start = omega arith in
    (omega arith, c.starts.invariant.1, rw e)

pub characters-preserved : goal.characters-preserved
characters-preserved c =
    let e : c.starts.start + c.characters.k + 1 ≡ c.starts.start + (c.characters.k + 1) = omega arith in
    (omega arith, c.characters.invariant.1, c.characters.invariant.2 ∙ rw e at (begins_same c.args.text.now c.args.id.now c.characters.k (c.starts.start + c.characters.k) (omega arith) (omega arith) c.if-text-k.false))

pub starts-preserved : goal.starts-preserved
starts-preserved c =
    let e = c.characters.invariant.2 ∙ begins_other c.args.text.now c.args.id.now c.characters.k (c.starts.start + c.characters.k) (omega arith) (omega arith) c.if-text-k.true in
    (omega arith, c.characters.invariant.1, c.starts.invariant.2 ∙ contains_past c.args.text.now c.args.id.now c.starts.start (omega arith) e)

pub returns-after-starts : goal.returns-after-starts
returns-after-starts c =
    c.starts.invariant.1 ∙ sym (c.starts.invariant.2 ∙ contains_short c.args.text.now (drop c.starts.start c.args.id.now) (omega (arith, length-drop c.starts.start c.args.id.now)))

pub returns-then-k-n : goal.returns-then-k-n
returns-then-k-n c =
    sym (c.starts.invariant.2 ∙ contains_front c.args.text.now (drop c.starts.start c.args.id.now) (c.characters.invariant.2 ∙ begins_end c.args.text.now c.args.id.now c.characters.k (c.starts.start + c.characters.k) (omega arith)))
