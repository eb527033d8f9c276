use borrow.Author.Rules.{rules}
use mathlib.Core.Path.{◌≡◌, sym, ◌∙◌}
use mathlib.Core.Bool.{◌&&◌}
use lib.Dec.{leb}
use Rattle.rules.specs.Command.{Deletion, is_code, well_formed}
use Rattle.frame.specs.Field.{plain_bytes, bytes_of, all_bytes}
use Rattle.frame.specs.Frame.{kind_byte, fields_of, kind_of, values_of, frame_of}
use Rattle.command.specs.View.{to_header}
use Rattle.command.proofs.Forms.{deletion_formed}
use Rattle.octet_writer.proofs.Laws.{written_same, written_then}
use Rattle.frame_code_writer.proofs.Fields.{lastly, byte_one, refused, written, message}
use Rattle.frame_message_writer.proofs.write_deletion.Goals.{Start}
use Rattle.frame_message_writer.proofs.write_deletion.Goals as goal

formed : (s : Start) → well_formed (Deletion (to_header s.args.h) s.args.account s.args.kind) ≡ (is_code s.args.h.sender && leb s.args.h.second 86399)
formed s = search (rules, deletion_formed)

pub returns-then-not-is_header-clause-wrote : goal.returns-then-not-is_header-clause-wrote
returns-then-not-is_header-clause-wrote c =
    refused (Deletion (to_header c.args.h) c.args.account c.args.kind)
    (formed (goal.at.returns-then-not-is_header-clause-wrote c).Start ∙ sym c.is_header.ensures ∙ c.if-not-is_header.true)

pub returns-clause-wrote : goal.returns-clause-wrote
unfolding to_header frame_of kind_of kind_byte fields_of values_of all_bytes bytes_of plain_bytes
returns-clause-wrote c =
    written (Deletion (to_header c.args.h) c.args.account c.args.kind)
    (formed (goal.at.returns-clause-wrote c).Start ∙ sym c.is_header.ensures ∙ c.if-not-is_header.false)
    (message 8 _ _ _ c.args.h.id _ c.put_header.ensures.wrote
    (written_then c.put_all.ensures.wrote (lastly (written_same (byte_one c.args.kind c.ranges.kind.fits) c.put.ensures.wrote))))
