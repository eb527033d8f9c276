use Rattle.rules.specs.Letters.{may_send}
use Rattle.account_letters.specs.View.{to_letter}
use Rattle.payment_letters.proofs.may_send.Goals as goal

pub returns : goal.returns
unfolding may_send to_letter
returns c = rw (c.holds-blocked_s.ensures, c.holds-blocked_r.ensures, c.holds-blocked_a.ensures)
