use Rattle.account.proofs.Laws.{state_asks, state_reads}
use Rattle.account_morning.proofs.carried.Goals as goal

pub state-requires : goal.state-requires
state-requires c = state_asks c.args.x c.requires

pub returns : goal.returns
returns c =
    rw (state_reads c.args.x c.requires c.state.result c.state.type_inv c.state.ensures) at c.with_start.ensures
