use lib.ListN.{set, length-set}
use Rattle.table.specs.Inside.{table_of}
use Rattle.table.specs.Promise.{Called}
use Rattle.table.proofs.Stored.{kept}
use Rattle.call_payment.proofs.Parties.{as_payment}
use Rattle.call_payment.proofs.Calls.{out_room, own_out_room, in_room, own_in_room, booked}
use Rattle.call_payment.proofs.book_parties.Goals.{After-own_booked-2}
use Rattle.call_payment.proofs.book_parties.Goals as goal

pub bank_booked-requires : goal.bank_booked-requires
bank_booked-requires c = let d = c.requires in (d.amount, out_room (table_of c.t.inside) c.t.invariant.good c.args.p _ (rw (← c.t.view_is) at d.parties) d.amount _)

pub own_booked-requires : goal.own_booked-requires
own_booked-requires c = let d = c.requires in (d.amount, own_out_room (table_of c.t.inside) c.t.invariant.good c.args.p _ (rw (← c.t.view_is) at d.parties) d.amount _ _ c.bank_booked.ensures)

pub bank_booked-requires-2 : goal.bank_booked-requires-2
bank_booked-requires-2 c = let d = c.requires in
    (d.amount, in_room (table_of c.t.inside) c.t.invariant.good c.args.p _ (rw (← c.t.view_is) at d.parties) d.amount _ _ c.bank_booked.ensures _ c.own_booked.ensures)

pub own_booked-requires-2 : goal.own_booked-requires-2
own_booked-requires-2 c = let d = c.requires in
    (d.amount, own_in_room (table_of c.t.inside) c.t.invariant.good c.args.p _ (rw (← c.t.view_is) at d.parties) d.amount _ _ c.bank_booked.ensures _ c.own_booked.ensures _ c.bank_booked-2.ensures)

paid : (c : After-own_booked-2) → Called (as_payment c.args.p) (table_of c.t.inside) (record { answer = 0; table = record (table_of c.t.inside) { accounts = set (set (set (set c.t.inside.accounts c.args.parties.payer.bank c.bank_booked.result) c.args.parties.payer.account c.own_booked.result) c.args.parties.payee.bank c.bank_booked-2.result) c.args.parties.payee.account c.own_booked-2.result } })
paid c = let d = c.requires in
    booked (table_of c.t.inside) c.t.invariant.good c.args.p _ (rw (← c.t.view_is) at d.parties) d.amount _ _ c.bank_booked.ensures _ c.own_booked.ensures _ c.bank_booked-2.ensures (rw (← c.t.view_is) at d.passes) _ c.own_booked-2.ensures

pub invariant_of-t : goal.invariant_of-t
invariant_of-t c = kept c.t.invariant.good (paid (goal.at.invariant_of-t c).After-own_booked-2) (simp length-set c.t.invariant.long)

pub returns : goal.returns
returns c = rw (← c.t.view_is) (paid (goal.at.returns c).After-own_booked-2)
