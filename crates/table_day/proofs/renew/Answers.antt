use native.Mathlib.Omega.{arith}
use mathlib.Core.Path.{refl, sym, subst}
use mathlib.Core.List.{map}
use Rattle.account.specs.View.{to_account}
use Rattle.rules.specs.Account.{blank}
use Rattle.table.proofs.Called.{all_place}
use Rattle.table_day.specs.Ready.{Ready}
use Rattle.table_day.proofs.Days.{below, old_one, new_one, all_mapped}
use Rattle.table_day.proofs.renew.Goals as goal

pub loop-x-init : goal.loop-x-init
loop-x-init c = refl

pub new_day-requires : goal.new_day-requires
new_day-requires c =
    let xs = map to_account c.args.accounts.now in
    let e = c.loop-x.invariant in
    subst Ready (sym (old_one xs c.loop-x.x-items c.loop-x.x-index e (omega arith) _)) (all_place Ready xs c.loop-x.x-index blank (below xs c.loop-x.x-items c.loop-x.x-index e (omega arith)) c.requires)

pub loop-x-preserved : goal.loop-x-preserved
loop-x-preserved c = new_one (map to_account c.args.accounts.now) c.loop-x.x-items c.loop-x.x-index c.loop-x.invariant (omega arith) c.new_day.result _ c.new_day.ensures

pub returns : goal.returns
returns c = all_mapped (map to_account c.args.accounts.now) c.loop-x.x-items c.loop-x.x-index c.loop-x.invariant (omega arith)
