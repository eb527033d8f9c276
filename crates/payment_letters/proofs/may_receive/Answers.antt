use Rattle.rules.specs.Letters.{may_receive}
use Rattle.account_letters.specs.View.{to_letter}
use Rattle.payment_letters.proofs.may_receive.Goals as goal

pub returns : goal.returns
unfolding may_receive to_letter
returns c = rw (c.holds-blocked_n.ensures, c.holds-blocked_b.ensures)
