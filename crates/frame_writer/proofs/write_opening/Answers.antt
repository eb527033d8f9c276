use Prim.Native.Nat.{◌^◌}
use borrow.Author.Tests.{lt-ltb}
use Rattle.rules.specs.Command.{Opening, is_day, well_formed}
use Rattle.frame.specs.Field.{plain_bytes, bytes_of, all_bytes}
use Rattle.frame.specs.Frame.{kind_byte, fields_of, kind_of, values_of, frame_of}
use Rattle.octet_writer.proofs.Laws.{written_then}
use Rattle.frame_code_writer.proofs.Fields.{lastly, written}
use Rattle.frame_writer.proofs.write_opening.Goals as goal

pub returns-clause-wrote : goal.returns-clause-wrote
unfolding well_formed is_day frame_of kind_of kind_byte fields_of values_of all_bytes bytes_of plain_bytes
returns-clause-wrote c =
    written (Opening c.args.day) (lt-ltb c.args.day (2 ^ 32) c.ranges.day.fits) (written_then c.put.ensures.wrote (lastly c.put-2.ensures.wrote))
