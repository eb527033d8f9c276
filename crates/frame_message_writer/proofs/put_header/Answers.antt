use Rattle.octet_writer.proofs.Laws.{written_then}
use Rattle.frame_message_writer.proofs.put_header.Goals as goal

pub returns-clause-wrote : goal.returns-clause-wrote
returns-clause-wrote c =
    written_then c.put.ensures.wrote
    (written_then (rw c.code_digits.ensures at c.put_all.ensures.wrote)
    (written_then c.put_all-2.ensures.wrote (written_then c.put-2.ensures.wrote c.put-3.ensures.wrote)))
