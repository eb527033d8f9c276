use native.Mathlib.Omega.{arith}
use lib.IntN.{pos}
use Rattle.account.specs.View.{to_account}
use Rattle.account.proofs.Laws.{diff_fits, minus_reads, count_size, start_size}
use Rattle.account_booking.proofs.start_down.Goals as goal

pub overflow_sub-x : goal.overflow_sub-x
overflow_sub-x c =
    omega (arith, diff_fits, c.n.invariant, start_size c.args.x c.requires, count_size c.n.inside.kopiyky (omega (arith, c.n.invariant)))

pub returns : goal.returns
unfolding to_account
returns c =
    rw (← c.n.view_is)
    (rw (minus_reads c.args.x.start (pos c.n.inside.kopiyky) (omega (arith, c.n.invariant, c.requires.start_small))) at c.with_start.ensures)
