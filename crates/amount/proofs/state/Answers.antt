use Prim.Native.Nat.{◌*◌, ◌≤◌, ◌^◌}
use native.Mathlib.Omega.{arith}
use lib.IntN.{nat_abs}
use Rattle.amount.proofs.Integer.{told, got}
use Rattle.amount.proofs.Laws.{balance_small, sum_fits, sum_read}
use borrow.Author.Rules.{sfits_of}
use Rattle.amount.proofs.state.Goals as goal

small : (c : goal.After-balance) → nat_abs c.balance.result ≤ 2 * 10 ^ 17
small c = rw c.balance.ensures (balance_small (10 ^ 17) c.before.args.turnovers c.before.requires.1)

pub overflow_add-result : goal.overflow_add-result
overflow_add-result c =
    omega (arith, sum_fits, small c, told c.before.ranges.start, got c.balance.result c.balance.type_inv)

pub returns : goal.returns
returns c =
    rw (← c.balance.ensures)
    (sum_read c.before.ranges.start (sfits_of c.balance.type_inv) (omega (arith, small c)))
