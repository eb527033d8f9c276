use Rattle.std.proofs.Common.{rules, ◌≡◌, refl, Err}
use Rattle.refusal.proofs.Numbers.{no_zero}
use Rattle.rules.specs.Command.{Opening}
use Rattle.book.specs.Entries.{book_of}
use Rattle.ledger.specs.Promise.{Settled}
use Rattle.ledger.specs.View.{view_of}
use Rattle.ledger.proofs.Laws.{settled_day_no, settled_day_yes}
use Rattle.call_day.proofs.open.Goals.{After-forget_before}
use Rattle.call_day.proofs.open.Goals as goal

pub returns-in_err-open_day : goal.returns-in_err-open_day
returns-in_err-open_day c =
    let e : c.from_residual.result ≡ Err c.in_err-open_day.field-0.0 = search rules in
    rw (← c.l.view_is, e) (settled_day_no c.args.day c.l.inside.table _ _ _ _ c.in_err-open_day.ensures (no_zero c.in_err-open_day.field-0.0))

pub forget_before-requires : goal.forget_before-requires
unfolding view_of book_of
forget_before-requires c = (c.l.invariant.few, c.l.invariant.lengths, c.l.invariant.inv.book.in_order)

opened : (c : After-forget_before) → let b = c.l.inside.book in let n = c.forget_before.new.self in
    Settled (Opening c.args.day) c.l.inside.table b.ids b.days b.used (record { answer = 0; table = c.open_day.new.t; used = n.used }) n.ids n.days
opened c =
    settled_day_yes c.args.day c.l.inside.table _ _ _ _ _ _ _ c.l.invariant.few c.in_ok-open_day.ensures refl
    (rw c.today-ending.ensures at c.forget_before.ensures)

pub invariant_of-l-2 : goal.invariant_of-l-2
invariant_of-l-2 c = (opened (goal.at.invariant_of-l-2 c).After-forget_before).sound c.l.invariant

pub returns : goal.returns
returns c = rw (← c.l.view_is) (opened (goal.at.returns c).After-forget_before)
