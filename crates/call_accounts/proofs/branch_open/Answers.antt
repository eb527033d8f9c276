use mathlib.Core.Path.{refl}
use Rattle.rules.specs.Command.{Branch}
use Rattle.rules.specs.Machine.{effect}
use Rattle.account.specs.View.{to_owner}
use Rattle.table.specs.View.{machine_of}
use Rattle.call_accounts.proofs.Joins.{opens}
use Rattle.call_accounts.proofs.branch_open.Goals as goal

pub join-requires : goal.join-requires
unfolding effect machine_of to_owner
join-requires c = (c.in_ok-branch_checks.ensures.room, rw c.opened.ensures (opens (Branch c.args.code c.args.owner c.args.ltk_method c.args.lpo_method) c.args.t.now _ c.in_ok-branch_checks.ensures.says refl))
