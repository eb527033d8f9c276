use mathlib.Core.Path.{sym, ◌∙◌}
use mir.Facts.{to_z-of_z}
use Rattle.octets.proofs.Numbers.{fits_money}
use Rattle.rules.specs.Command.{BankLimits}
use Rattle.command.proofs.Forms.{limits_formed}
use Rattle.frame.specs.Field.{plain_bytes, bytes_of, all_bytes}
use Rattle.frame.specs.Frame.{kind_byte, fields_of, kind_of, values_of, frame_of}
use Rattle.octet_writer.proofs.Laws.{written_then}
use Rattle.frame_code_writer.proofs.Fields.{lastly, refused, written}
use Rattle.frame_writer.proofs.write_bank_limits.Goals as goal

pub returns-then-is_code-clause-wrote : goal.returns-then-is_code-clause-wrote
unfolding frame_of kind_of kind_byte fields_of values_of all_bytes bytes_of plain_bytes
returns-then-is_code-clause-wrote c =
    written (BankLimits c.args.code c.args.ltk c.args.lpo)
    (limits_formed c.args.code c.args.ltk c.args.lpo (fits_money c.args.ltk c.ranges.ltk) (fits_money c.args.lpo c.ranges.lpo) ∙ sym c.is_code.ensures ∙ c.if-is_code.true)
    (written_then c.put.ensures.wrote
    (written_then (rw c.code_digits.ensures at c.put_all.ensures.wrote)
    (written_then (rw (to_z-of_z c.ranges.ltk) at c.put-then-is_code.ensures.wrote) (lastly (rw (to_z-of_z c.ranges.lpo) at c.put-then-is_code-2.ensures.wrote)))))

pub returns-else-is_code-clause-wrote : goal.returns-else-is_code-clause-wrote
returns-else-is_code-clause-wrote c =
    refused (BankLimits c.args.code c.args.ltk c.args.lpo)
    (limits_formed c.args.code c.args.ltk c.args.lpo (fits_money c.args.ltk c.ranges.ltk) (fits_money c.args.lpo c.ranges.lpo) ∙ sym c.is_code.ensures ∙ c.if-is_code.false)
