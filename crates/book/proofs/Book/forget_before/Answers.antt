-- What stays is moved down, or, where all stays, is where it was. Assumes nothing.
use Prim.Native.Nat.{◌-◌, ◌*◌}
use mathlib.Core.Path.{◌≡◌, ◌∙◌}
use native.Mathlib.Omega.{arith}
use Rattle.octets.proofs.Places.{moved_front}
use Rattle.book.specs.Entries.{book_of}
use Rattle.book.proofs.Laws.{rising, write_back, dropped}
use Rattle.book.proofs.Book.forget_before.Goals as goal

pub count_before-gone-requires : goal.count_before-gone-requires
unfolding book_of
count_before-gone-requires c =
    let b = c.args.self.now in
    rising b.ids b.days b.used (omega (arith, c.requires.1.days_long)) c.requires.2

pub returns-then-gone-eq0 : goal.returns-then-gone-eq0
unfolding book_of
returns-then-gone-eq0 c =
    let b = c.args.self.now in
    let gone = c.count_before-gone.result in
    let none : gone ≡ 0 = omega (arith, c.if-gone-eq0.true) in
    dropped b.ids b.days b.used c.args.day _ _ gone _ c.requires.0 c.requires.1 c.count_before-gone.ensures.parted (omega (arith, none))
    (write_back b.ids (gone * 32) _ (omega (arith, none)) (omega (arith, c.requires.0, c.requires.1.ids_long)))
    (write_back b.days gone _ none (omega (arith, c.requires.0, c.requires.1.days_long)))

pub returns : goal.returns
unfolding book_of
returns c =
    let b = c.args.self.now in
    let gone = c.count_before-gone.result in
    let kept = b.used - gone in
    dropped b.ids b.days b.used c.args.day _ _ gone kept c.requires.0 c.requires.1
    c.count_before-gone.ensures.parted (omega (arith, c.count_before-gone.ensures.within))
    (c.copy_within.ensures.after ∙ moved_front b.ids (gone * 32) (kept * 32) (b.used * 32) (omega (arith, c.count_before-gone.ensures.within)) (omega arith))
    (c.copy_within-2.ensures.after ∙ moved_front b.days gone kept b.used (omega (arith, c.count_before-gone.ensures.within)) (omega arith))
