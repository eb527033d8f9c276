use native.Mathlib.Omega.{arith}
use mathlib.Core.Path.{◌≡◌, ap, ◌∙◌}
use Prim.Native.Nat.{ℕ}
use mir.Syntax.{w64}
use mir.Val.{to_z}
use lib.IntN.{pos}
use Rattle.amount.proofs.Integer.{low_to_z}
use Rattle.rules.specs.Account as Rule
use Rattle.rules.specs.Invariant.{Sized}
use Rattle.rules.specs.Day.{morning_limits}
use Rattle.account.specs.View.{to_account, to_turnovers, to_turnover}
use Rattle.account.proofs.Laws.{sized_light, at_most, balance_reads}
use Rattle.account_morning.proofs.morning_limits.Goals as goal

icdt_reads : (x : Rule.Account) → Sized x → (r : ℕ) → r ≡ Rule.turnover Rule.ICDT x.turnovers → to_z w64 r ≡ pos x.turnovers.icdt
unfolding Rule.turnover
icdt_reads x s r e = low_to_z (omega (arith, s.turnovers_small)) ∙ ap pos e

pub balance-requires : goal.balance-requires
balance-requires c = at_most c.args.x (sized_light c.requires.0)

pub morning-ltk-requires : goal.morning-ltk-requires
unfolding to_account
morning-ltk-requires c =
    rw (balance_reads c.args.x c.balance.result c.balance.type_inv c.balance.ensures) (c.requires.0.balance_small, c.requires.1)

pub morning-lpo-requires : goal.morning-lpo-requires
unfolding to_account to_turnover
morning-lpo-requires c =
    rw (icdt_reads (to_account c.args.x) c.requires.0 c.turnover.result c.turnover.ensures) (omega (arith, c.requires.0.turnovers_small), c.requires.2)

pub returns : goal.returns
unfolding morning_limits to_account to_turnovers to_turnover
returns c =
    let less = balance_reads c.args.x c.balance.result c.balance.type_inv c.balance.ensures in
    rw (c.with_limits.ensures, c.morning-lpo.ensures, c.morning-ltk.ensures, less, icdt_reads (to_account c.args.x) c.requires.0 c.turnover.result c.turnover.ensures)
