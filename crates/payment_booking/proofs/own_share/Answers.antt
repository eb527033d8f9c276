use Rattle.payment_booking.specs.Share.{share}
use Rattle.payment_booking.proofs.own_share.Goals as goal

pub returns-then-is_bank : goal.returns-then-is_bank
unfolding share
returns-then-is_bank c = rw (← c.is_bank.ensures, c.if-is_bank.true)

pub returns-else-is_bank : goal.returns-else-is_bank
unfolding share
returns-else-is_bank c = rw (← c.is_bank.ensures, c.if-is_bank.false, ← c.n.view_is)
