use mathlib.Core.Path.{sym, ap₂, ◌∙◌}
use mathlib.Core.Bool.{◌&&◌}
use mir.Syntax.{w64}
use mir.Val.{SFits}
use mir.Facts.{to_z-of_z}
use borrow.Author.Rules.{rules}
use Rattle.octets.proofs.Numbers.{fits_money}
use Rattle.rules.specs.Command.{Payment}
use Rattle.command.proofs.Forms.{payment_formed}
use Rattle.frame.specs.Field.{plain_bytes, bytes_of, all_bytes}
use Rattle.frame.specs.Frame.{kind_byte, fields_of, kind_of, values_of, frame_of}
use Rattle.octet_writer.proofs.Laws.{written_then}
use Rattle.frame_code_writer.proofs.Fields.{lastly, refused, written}
use Rattle.frame_writer.proofs.write_payment.Goals as goal

pub returns-then-is_way-is_code-clause-wrote : goal.returns-then-is_way-is_code-clause-wrote
unfolding frame_of kind_of kind_byte fields_of values_of all_bytes bytes_of plain_bytes
returns-then-is_way-is_code-clause-wrote c =
    let f : SFits w64 c.args.p.amount = search rules in
    written (Payment c.args.p.way c.args.p.sender c.args.p.receiver c.args.p.amount)
    (payment_formed c.args.p.way c.args.p.sender c.args.p.receiver c.args.p.amount (fits_money c.args.p.amount f)
    ∙ sym (ap₂ ◌&&◌ (ap₂ ◌&&◌ c.is_way.ensures c.is_code.ensures) c.is_code-2.ensures) ∙ c.if-is_way-is_code.true)
    (written_then c.put.ensures.wrote
    (written_then c.put-then-is_way-is_code.ensures.wrote
    (written_then (rw c.code_digits.ensures at c.put_all.ensures.wrote)
    (written_then (rw c.code_digits-then-is_way-is_code.ensures at c.put_all-then-is_way-is_code.ensures.wrote)
    (lastly (rw (to_z-of_z f) at c.put-then-is_way-is_code-2.ensures.wrote))))))

pub returns-else-is_way-is_code-clause-wrote : goal.returns-else-is_way-is_code-clause-wrote
returns-else-is_way-is_code-clause-wrote c =
    let f : SFits w64 c.args.p.amount = search rules in
    refused (Payment c.args.p.way c.args.p.sender c.args.p.receiver c.args.p.amount)
    (payment_formed c.args.p.way c.args.p.sender c.args.p.receiver c.args.p.amount (fits_money c.args.p.amount f)
    ∙ sym (ap₂ ◌&&◌ (ap₂ ◌&&◌ c.is_way.ensures c.is_code.ensures) c.is_code-2.ensures) ∙ c.if-is_way-is_code.false)
