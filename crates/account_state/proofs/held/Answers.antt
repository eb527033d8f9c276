use Rattle.amount.proofs.Integer.{back}
use Rattle.rules.specs.Account.{state, state_of, held, held_of}
use Rattle.account.specs.View.{to_account, to_owner}
use Rattle.account_state.proofs.held.Goals as goal

pub returns-in-None : goal.returns-in-None
unfolding to_account to_owner held held_of state state_of
returns-in-None c =
    rw (back c.state_of.result c.state_of.type_inv, c.state_of.ensures, c.in-None.is)

pub returns-in-Some : goal.returns-in-Some
unfolding to_account to_owner held held_of
returns-in-Some c = rw c.in-Some.is
