use mathlib.Core.Path.{◌≡◌}
use mathlib.Core.List.{◌++◌, map}
use lib.ListN.{drop}
use native.Mathlib.Omega.{arith}
use Rattle.rules.specs.Command.{Opening}
use Rattle.rules.specs.Day.{new_day}
use Rattle.account.specs.View.{to_account}
use Rattle.table.specs.Inside.{table_of}
use Rattle.table.specs.Promise.{Called}
use Rattle.table.specs.View.{accounts_of}
use Rattle.table.proofs.Called.{declined}
use Rattle.table.proofs.Stored.{kept}
use Rattle.table_day.proofs.Days.{day_answer, opened_called, ready, still_long}
use Rattle.table_day.proofs.open_day.Goals.{After-renew}
use Rattle.table_day.proofs.open_day.Goals as goal

pub returns-in_err-check : goal.returns-in_err-check
returns-in_err-check c =
    let e = day_answer (table_of c.t.inside) c.args.day c.ranges.day.fits in
    rw (← c.t.view_is) (declined (Opening c.args.day) (table_of c.t.inside) _ (grind arith) (grind arith))

pub renew-requires : goal.renew-requires
unfolding accounts_of
renew-requires c = ready (table_of c.t.inside) c.t.invariant.good

renewed : (c : After-renew) → map to_account c.renew.new.accounts ≡ map new_day (accounts_of (table_of c.t.inside))
unfolding accounts_of
renewed c = c.renew.ensures

opened : (c : After-renew) → let t = table_of c.t.inside in Called (Opening c.args.day) t (record { answer = 0; table = record { codes = t.codes; accounts = c.renew.new.accounts ++ drop t.count t.accounts; count = t.count; day = c.args.day } })
opened c =
    let e = day_answer (table_of c.t.inside) c.args.day c.ranges.day.fits in
    opened_called (table_of c.t.inside) c.t.invariant.good c.t.invariant.long c.renew.new.accounts (renewed c) c.args.day (grind arith)

pub invariant_of-t : goal.invariant_of-t
invariant_of-t c =
    let s = (goal.at.invariant_of-t c).After-renew in
    kept c.t.invariant.good (opened s) (still_long (table_of c.t.inside) c.t.invariant.good c.t.invariant.long c.renew.new.accounts (renewed s))

pub returns : goal.returns
returns c = rw (← c.t.view_is) (opened (goal.at.returns c).After-renew)
