-- Some of the report is written, and the rest of the set gives the rest of it.
use Rattle.table.specs.Inside.{table_of}
use Rattle.table.specs.View.{accounts_of}
use Rattle.octet_writer.specs.Written.{IsSameBuffer}
use Rattle.report_search.proofs.Walked.{Walked}
use Rattle.report_search.proofs.put_search.Given as goal

abbrev pub invariant-loop-rest : goal.invariant-loop-rest
invariant-loop-rest l = IsSameBuffer l.initial.w l.w × Walked l.sender (accounts_of (table_of l.t-inside)) l.set l.rest l.initial.w.out.now l.w.out.now l.w.at

abbrev pub decreases-loop-rest : goal.decreases-loop-rest
decreases-loop-rest l = l.rest
