use Rattle.rules.specs.Letters.{holds}
use Rattle.account.specs.View.{to_account}
use Rattle.payment_letters.proofs.holds.Goals as goal

pub returns : goal.returns
unfolding to_account holds
returns c = rw (c.has-2.ensures, c.has.ensures)
