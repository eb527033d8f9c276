-- What a program's line says, in the words of the rules. Assumes nothing.
use Rattle.rules.specs.Report as Rule
use Rattle.report_limit.specs.declared.Status.{Status}
use Rattle.report_limit.specs.declared.Status.TheVariants.{Closed, Idle, Busy}

unfoldable pub to_status : Status → Rule.Status
to_status Closed = Rule.closed_status
to_status (Idle v) = Rule.idle_status v
to_status (Busy v u l p) = record { closed = 0; value = v; mark = 1; used = u; left = l; percent = p }
