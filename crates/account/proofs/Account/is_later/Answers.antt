use mathlib.Core.Bool.{Bool, true, false, cond, ◌||◌, ◌&&◌}
use mathlib.Core.Path.{◌≡◌, refl, ◌∙◌}
use lib.Dec.{eqb, ltb}
use Rattle.std.specs.Prelude.{Option, None, Some}
use Rattle.std.specs.Option.{option_partial_cmp}
use Rattle.std.proofs.Common.{Less, Equal, Greater}
use Rattle.std.specs.Ordering.{partial_ordering_then, is_some_and, is_lt, partial_lt}
use Rattle.rules.specs.Message.{later}
use Rattle.account.specs.declared.Moment.{Moment}
use Rattle.account.specs.contracts.MomentPartialOrd.TheImpl.{partial_cmp-value}
use Rattle.account.specs.View.{to_account, to_moment, at_moment}
use Rattle.account.proofs.Account.is_later.Goals as goal

-- a and b: the first numbers are in order, and equal; c and d of the second ones
day_first : (a b c d : Bool) → is_some_and is_lt (partial_ordering_then (Some (cond a Less (cond b Equal Greater))) (Some (cond c Less (cond d Equal Greater)))) ≡ (a || (b && c))
day_first true b c d = refl
day_first false false c d = refl
day_first false true true d = refl
day_first false true false true = refl
day_first false true false false = refl

by_moment : (e : Option Moment) (m : Moment) → partial_lt (option_partial_cmp partial_cmp-value.it) e (Some m) ≡ later (to_moment e) (at_moment m)
unfolding to_moment later
by_moment None m = refl
by_moment (Some e) m = day_first (ltb e.day m.day) (eqb e.day m.day) (ltb e.second m.second) (eqb e.second m.second)

pub returns : goal.returns
unfolding to_account
returns c = c.lt.ensures ∙ by_moment c.args.self.moment c.args.moment
