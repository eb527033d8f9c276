use native.Mathlib.Omega.{arith}
use Rattle.rules.specs.Account.{state, state_of}
use Rattle.account.specs.View.{to_account, to_owner}
use Rattle.account.proofs.Laws.{sized_light, at_most, balance_reads, state_asks, state_reads}
use Rattle.account_state.proofs.state_of.Goals as goal

pub state-requires : goal.state-requires
state-requires c = let a = state_asks c.args.x c.requires in (omega arith, a.1)

pub balance-requires : goal.balance-requires
balance-requires c = at_most c.args.x (sized_light c.requires)

pub returns-in-None : goal.returns-in-None
unfolding to_account to_owner state state_of
returns-in-None c =
    rw c.in-None.is (state_reads c.args.x c.requires c.state.result c.state.type_inv c.state.ensures)

pub returns-in-Some : goal.returns-in-Some
unfolding to_account to_owner state state_of
returns-in-Some c =
    rw c.in-Some.is
    (balance_reads c.args.x c.balance.result c.balance.type_inv c.balance.ensures)
