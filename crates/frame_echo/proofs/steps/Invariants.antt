-- The loop's invariant: what came of the lines passed, and the line ends that are left. Assumes nothing.
use Rattle.octet_writer.specs.Written.{IsSameBuffer}
use Rattle.frame_echo.proofs.Begun.{Passed}
use Rattle.frame_echo.proofs.steps.Given as goal

abbrev pub invariant-loop-end : goal.invariant-loop-end
invariant-loop-end l = IsSameBuffer l.initial.w l.w × Passed l.text l.initial.line.items l.from l.end-iterator l.initial.w.out.now l.w.out.now l.line.items l.w.at
