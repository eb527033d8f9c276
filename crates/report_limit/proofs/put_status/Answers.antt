use mathlib.Core.Path.{◌≡◌}
use mir.Syntax.{w64}
use mir.Val.{to_z, of_z}
use Rattle.octets.specs.Octets.{big_endian, twos, money}
use Rattle.rules.specs.Report.{status_bytes, closed_status, idle_status}
use Rattle.octet_writer.proofs.Laws.{written_then}
use Rattle.report_limit.specs.Statuses.{to_status}
use borrow.Author.Rules.{rules}
use Rattle.report_limit.proofs.put_status.Goals as goal

pub returns-in-Closed-clause-wrote : goal.returns-in-Closed-clause-wrote
unfolding to_status status_bytes closed_status money twos big_endian
returns-in-Closed-clause-wrote c = rw c.in-Closed.is (written_then c.put.ensures.wrote c.put_all.ensures.wrote)

pub returns-in-Idle-clause-wrote : goal.returns-in-Idle-clause-wrote
unfolding to_status status_bytes idle_status money twos big_endian
returns-in-Idle-clause-wrote c =
    let v : to_z w64 (of_z w64 c.in-Idle.value) ≡ c.in-Idle.value = search rules in
    rw c.in-Idle.is
    (written_then c.put-in-Idle.ensures.wrote (written_then (rw v at c.put-in-Idle-2.ensures.wrote) c.put_all-in-Idle.ensures.wrote))

pub returns-in-Busy-clause-wrote : goal.returns-in-Busy-clause-wrote
unfolding to_status status_bytes
returns-in-Busy-clause-wrote c =
    let v : to_z w64 (of_z w64 c.in-Busy.value) ≡ c.in-Busy.value = search rules in
    let u : to_z w64 (of_z w64 c.in-Busy.used) ≡ c.in-Busy.used = search rules in
    let l : to_z w64 (of_z w64 c.in-Busy.left) ≡ c.in-Busy.left = search rules in
    rw c.in-Busy.is
    (written_then c.put-in-Busy.ensures.wrote
    (written_then (rw v at c.put-in-Busy-2.ensures.wrote)
    (written_then c.put-in-Busy-3.ensures.wrote
    (written_then (rw u at c.put-in-Busy-4.ensures.wrote)
    (written_then (rw l at c.put-in-Busy-5.ensures.wrote) c.put-in-Busy-6.ensures.wrote)))))
