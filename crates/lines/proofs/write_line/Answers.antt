use Rattle.lines.specs.Text.{printed}
use Rattle.octet_writer.proofs.Laws.{written_then}
use Rattle.lines.proofs.write_line.Goals as goal

pub returns-clause-wrote : goal.returns-clause-wrote
unfolding printed
returns-clause-wrote c =
    written_then c.put.ensures.wrote (written_then c.put-2.ensures.wrote (written_then c.put_hex.ensures.wrote c.put-3.ensures.wrote))
