use Rattle.command.specs.View.{to_command}
use Rattle.play_frame.proofs.Laws.{sound_after, by_table}
use Rattle.play_frame.proofs.play.Goals as goal

pub invariant_of-l : goal.invariant_of-l
invariant_of-l c = sound_after tt c.pay.ensures c.l.invariant

pub returns-then-frame-eq6 : goal.returns-then-frame-eq6
unfolding to_command
returns-then-frame-eq6 c = rw (← c.transfer_at.ensures, ← c.l.view_is) (by_table tt c.pay.ensures c.unreported.ensures)
