use native.Mathlib.Omega.{arith}
use Rattle.amount.proofs.Integer.{back}
use Rattle.account.specs.View.{to_account}
use Rattle.account_state.proofs.covers.Goals as goal

pub ltk_holds-requires : goal.ltk_holds-requires
ltk_holds-requires c =
    rw (back c.state_of.result c.state_of.type_inv, c.state_of.ensures) (omega (arith, c.requires.state_small))

pub returns : goal.returns
unfolding to_account
returns c =
    rw (back c.state_of.result c.state_of.type_inv, c.state_of.ensures) at c.ltk_holds.ensures
