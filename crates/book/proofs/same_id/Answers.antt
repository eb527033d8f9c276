-- The last half, and where it is the same, the first. Assumes nothing.
use mathlib.Core.Path.{◌≡◌, sym, ◌∙◌}
use native.Mathlib.Omega.{arith}
use borrow.Author.Rules.{rules}
use lib.ListN.{length}
use Rattle.book.proofs.Laws.{differ_late, same_late, last_asked, first_asked}
use Rattle.book.proofs.same_id.Goals as goal

pub returns-then-eq : goal.returns-then-eq
returns-then-eq c =
    let a = c.args.place.now in
    let b = c.args.id.now in
    let long : length b ≡ 32 = search rules in
    let last = last_asked a b (omega arith) (omega arith) _ _ c.last_chunk.ensures.cases c.last_chunk-2.ensures.cases in
    let first = first_asked a b (omega arith) (omega arith) _ _ c.first_chunk.ensures.cases c.first_chunk-then-eq.ensures.cases in
    c.eq-then-eq.ensures ∙ first ∙ sym (same_late a b c.requires long (sym last ∙ sym c.eq.ensures ∙ c.if-eq.true))

pub returns-else-eq : goal.returns-else-eq
returns-else-eq c =
    let a = c.args.place.now in
    let b = c.args.id.now in
    let long : length b ≡ 32 = search rules in
    let last = last_asked a b (omega arith) (omega arith) _ _ c.last_chunk.ensures.cases c.last_chunk-2.ensures.cases in
    c.if-eq.false ∙ sym (differ_late a b c.requires long (sym last ∙ sym c.eq.ensures ∙ c.if-eq.false))
