-- It goes on from what reads left, which is all that was read and answered, or it is over. Assumes nothing.
use Rattle.tally.specs.Progress.{progress_of}
use Rattle.tally.proofs.Laws.{Standing, weight}
use Rattle.tally.proofs.serve.Given as goal

abbrev pub invariant-loop-buf : goal.invariant-loop-buf
invariant-loop-buf g l =
    Standing (g.R.Read.remaining l.initial.input) (g.R.Read.remaining l.input) (g.W.Write.contents l.initial.output) (g.W.Write.contents l.output) (progress_of l.p) l.p.ledger.book.ids l.p.ledger.book.days l.buf

abbrev pub decreases-loop-buf : goal.decreases-loop-buf
decreases-loop-buf g l = weight (progress_of l.p)
