-- The account of the item's code is set where it stands. Assumes nothing.
use lib.Seq.{drop-set-lt}
use Rattle.rules.specs.Message.{touch}
use Rattle.rules.proofs.Ledger.{quiet_touch}
use Rattle.command.specs.View.{to_header}
use Rattle.message_limits.specs.Setting.{setting}
use Rattle.message_limits.proofs.Sets.{none_set, one_set, still_listed}
use Rattle.message_limits.proofs.store.Goals as goal

pub returns-in-Some-clause-listed : goal.returns-in-Some-clause-listed
returns-in-Some-clause-listed c =
    let f = touch (to_header c.args.header) c.args.item.kind (setting c.args.item.value) in
    still_listed c.requires c.args.item.code f c.in-Some.i c.in-Some.ensures.0 c.in-Some.ensures.1 _ _ c.set_item.ensures
    (quiet_touch (to_header c.args.header) c.args.item.kind (setting c.args.item.value)).tame.code_kept

pub returns-in-Some-clause-accounts : goal.returns-in-Some-clause-accounts
returns-in-Some-clause-accounts c = one_set c.requires c.args.item.code _ c.in-Some.i c.in-Some.ensures.0 c.in-Some.ensures.1 _ _ c.set_item.ensures

pub returns-in-Some-clause-rest : goal.returns-in-Some-clause-rest
returns-in-Some-clause-rest c = drop-set-lt c.args.count c.args.accounts.now c.in-Some.i _ c.in-Some.ensures.1

pub returns-in_default-clause-accounts : goal.returns-in_default-clause-accounts
returns-in_default-clause-accounts c = none_set c.requires c.args.item.code _ c.in_default.ensures
