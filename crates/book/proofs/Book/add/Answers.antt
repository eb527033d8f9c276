-- What is written at the end of the used places is one entry more. Assumes nothing.
use mathlib.Core.Path.{◌≡◌, refl}
use Prim.Native.Nat.{◌*◌}
use native.Mathlib.Omega.{arith}
use borrow.Author.Rules.{rules}
use lib.ListN.{length}
use Rattle.octets.proofs.Places.{copied}
use Rattle.book.proofs.Laws.{added}
use Rattle.book.proofs.Book.add.Goals as goal

pub returns-clause-ids : goal.returns-clause-ids
returns-clause-ids c =
    let b = c.args.self.now in
    let long : length c.args.id.now ≡ 32 = search rules in
    added b.ids b.days b.used c.args.id.now c.args.day _ _ c.requires.0 c.requires.1 long
    (copied b.ids (b.used * 32) _ c.args.id.now _ c.copy_from_slice.ensures.after (omega arith) (omega arith)) refl
