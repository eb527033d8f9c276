-- What was read so far is echoed, and its begun line is kept. Assumes nothing.
use Rattle.frame_echo.proofs.Whole.{SoFar}
use Rattle.frame_echo.proofs.echo_all.Given as goal

abbrev pub invariant-loop : goal.invariant-loop
invariant-loop g l = SoFar (g.R.Read.remaining l.initial.input) (g.R.Read.remaining l.input) (g.W.Write.contents l.initial.output) (g.W.Write.contents l.output) l.line.items
