use Rattle.rules.specs.Letters.{letters_pass}
use Rattle.account.specs.View.{to_account}
use Rattle.payment_letters.proofs.letters_pass.Goals as goal

pub returns : goal.returns
unfolding to_account letters_pass
returns c = rw (c.may_receive.ensures, c.may_send.ensures)
