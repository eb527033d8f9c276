-- The loop of `play_lines`: its invariant, the lines played so far and the lengths of the buffers; its measure, what is left of the
-- text. Assumes nothing.
use mathlib.Core.Path.{◌≡◌}
use Prim.Native.Nat.{◌-◌}
use lib.ListN.{length}
use Rattle.ledger.specs.View.{ledger_view}
use Rattle.lines.specs.Text.{report_room}
use Rattle.octet_writer.specs.Written.{IsSameBuffer}
use Rattle.play_lines.specs.Run.{Passed}
use Rattle.play_lines.proofs.play_lines.Given as goal

abbrev pub invariant-loop-end : goal.invariant-loop-end
invariant-loop-end v =
    (Passed (ledger_view v.initial.l) v.initial.l.book.ids v.initial.l.book.days v.lines v.initial.w.out.now v.l.table v.l.book.ids v.l.book.days v.l.book.used v.read v.w.at v.w.out.now)
    × IsSameBuffer v.initial.w v.w
    × (length v.report ≡ report_room)
    × (length v.frame ≡ 352)

abbrev pub decreases-loop-end : goal.decreases-loop-end
decreases-loop-end v = length v.lines - v.read
