use native.Mathlib.Omega.{arith}
use mathlib.Core.Path.{◌≡◌}
use lib.ListN.{length}
use Rattle.rules.specs.Account.{with_turnovers}
use Rattle.rules.specs.Payment.{raised}
use Rattle.account.specs.View.{to_account}
use Rattle.account.proofs.Laws.{turnover_at, raise_at}
use borrow.Author.Rules.{rules}
use Rattle.account_booking.proofs.raised.Goals as goal

pub overflow_add-x : goal.overflow_add-x
unfolding to_account
overflow_add-x c = rw (c.place.ensures.1, ← turnover_at c.args.x.turnovers c.args.turnover) (omega arith)

pub returns : goal.returns
unfolding to_account raised with_turnovers
returns c =
    let four : length c.args.x.turnovers ≡ 4 = search rules in
    rw (c.place.ensures.1, raise_at c.args.x.turnovers c.args.turnover c.args.n four)
