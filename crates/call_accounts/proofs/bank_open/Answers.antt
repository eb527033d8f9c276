use mathlib.Core.Path.{refl}
use Rattle.rules.specs.Command.{Bank}
use Rattle.rules.specs.Machine.{effect}
use Rattle.account.specs.View.{to_owner}
use Rattle.table.specs.View.{machine_of}
use Rattle.call_accounts.proofs.Joins.{opens}
use Rattle.call_accounts.proofs.bank_open.Goals as goal

pub join-requires : goal.join-requires
unfolding effect machine_of to_owner
join-requires c = (c.in_ok-bank_checks.ensures.room, rw c.opened.ensures (opens (Bank c.args.code) c.args.t.now _ c.in_ok-bank_checks.ensures.says refl))
