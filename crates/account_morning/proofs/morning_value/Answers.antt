use native.Mathlib.Omega.{arith}
use borrow.Author.Rules.{rules}
use Rattle.amount.proofs.Integer.{back}
use Rattle.rules.specs.Day.{morning}
use Rattle.account.specs.View.{to_limit}
use Rattle.account.proofs.Laws.{minus_reads}
use Rattle.account_morning.proofs.Day.{morning_adjusts}
use Rattle.account_morning.proofs.morning_value.Goals as goal

pub returns-in-0 : goal.returns-in-0
unfolding morning to_limit
returns-in-0 c = rw c.in-0.is (search rules)

pub returns-in-1 : goal.returns-in-1
unfolding morning to_limit
returns-in-1 c = rw c.in-1.is (search rules)

pub returns-in-2 : goal.returns-in-2
unfolding morning to_limit
returns-in-2 c = rw c.in-2.is (search rules)

pub returns-in_default : goal.returns-in_default
unfolding to_limit
returns-in_default c =
    let adjusts = morning_adjusts c.args.method c.args.less c.args.v (search rules) (search rules) (search rules) in
    rw (adjusts, back c.cut.result c.cut.type_inv, c.cut.ensures, minus_reads c.args.v c.args.less (omega (arith, c.requires)))
