-- The blocks of the ids so far are written behind the count.
use lib.ListN.{take}
use Rattle.rules.specs.Report.{blocks}
use Rattle.table.specs.View.{accounts_of}
use Rattle.octet_writer.specs.Written.{IsSameBuffer, Wrote}
use Rattle.report_blocks.proofs.put_report.Given as goal

abbrev pub invariant-loop-id : goal.invariant-loop-id
invariant-loop-id l = IsSameBuffer l.initial.w l.w × Wrote (blocks l.sender (accounts_of l.t) (take l.id-index l.ids)) l.initial.w l.w
