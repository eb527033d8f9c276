use native.Mathlib.Omega.{arith}
use lib.IntN.{pos}
use Rattle.amount.proofs.Integer.{told}
use Rattle.amount.proofs.Laws.{sum_fits}
use Rattle.account.proofs.Laws.{plus_reads, count_size}
use Rattle.account_state.proofs.total_fits.Goals as goal

pub overflow_add-result : goal.overflow_add-result
overflow_add-result c =
    omega (arith, sum_fits, c.n.invariant, told c.ranges.sum, count_size c.n.inside.kopiyky (omega (arith, c.n.invariant)))

pub returns : goal.returns
returns c = rw (plus_reads c.args.sum (pos c.n.inside.kopiyky) (omega (arith, c.n.invariant)), ← c.n.view_is)
