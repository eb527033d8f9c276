use Rattle.command.specs.View.{to_header}
use Rattle.command.proofs.header_at.Goals as goal

pub returns : goal.returns
unfolding to_header
returns c = rw (c.code_at.ensures, c.read.ensures, c.read-2.ensures, c.read-3.ensures)
