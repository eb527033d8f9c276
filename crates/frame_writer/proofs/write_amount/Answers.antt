use mathlib.Core.Path.{sym, ◌∙◌}
use mir.Facts.{to_z-of_z}
use Rattle.octet_writer.proofs.Laws.{written_then}
use Rattle.frame_code_writer.proofs.Fields.{nothing}
use Rattle.frame_writer.proofs.write_amount.Goals as goal

pub returns-then-is_code-clause-wrote : goal.returns-then-is_code-clause-wrote
returns-then-is_code-clause-wrote c =
    rw (sym c.is_code.ensures ∙ c.if-is_code.true)
    (written_then c.put.ensures.wrote
    (written_then (rw c.code_digits.ensures at c.put_all.ensures.wrote) (rw (to_z-of_z c.ranges.amount) at c.put-then-is_code.ensures.wrote)))

pub returns-else-is_code-clause-wrote : goal.returns-else-is_code-clause-wrote
returns-else-is_code-clause-wrote c = rw (sym c.is_code.ensures ∙ c.if-is_code.false) nothing
