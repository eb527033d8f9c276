use mathlib.Core.Path.{sym, ap₂, ◌∙◌}
use mathlib.Core.Bool.{◌&&◌}
use Rattle.rules.specs.Command.{Letters, well_formed}
use Rattle.frame.specs.Field.{bytes_of, all_bytes}
use Rattle.frame.specs.Frame.{kind_byte, fields_of, kind_of, values_of, frame_of}
use Rattle.octet_writer.proofs.Laws.{written_then}
use Rattle.frame_code_writer.proofs.Fields.{lastly, refused, written}
use Rattle.frame_writer.proofs.write_letters.Goals as goal

pub returns-then-is_code-is_letters-clause-wrote : goal.returns-then-is_code-is_letters-clause-wrote
unfolding well_formed frame_of kind_of kind_byte fields_of values_of all_bytes bytes_of
returns-then-is_code-is_letters-clause-wrote c =
    written (Letters c.args.code c.args.letters) (sym (ap₂ ◌&&◌ c.is_code.ensures c.is_letters.ensures) ∙ c.if-is_code-is_letters.true)
    (written_then c.put.ensures.wrote
    (written_then (rw c.code_digits.ensures at c.put_all.ensures.wrote) (lastly c.put-then-is_code-is_letters.ensures.wrote)))

pub returns-else-is_code-is_letters-clause-wrote : goal.returns-else-is_code-is_letters-clause-wrote
unfolding well_formed
returns-else-is_code-is_letters-clause-wrote c =
    refused (Letters c.args.code c.args.letters) (sym (ap₂ ◌&&◌ c.is_code.ensures c.is_letters.ensures) ∙ c.if-is_code-is_letters.false)
