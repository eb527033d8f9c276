-- An input that has ended is done with. Assumes nothing.
use Rattle.std.proofs.Common.{refl}
use Rattle.tally.specs.ReadOn.{ends}
use Rattle.tally.proofs.progress.Progress.read_on.Goals as goal

pub returns-in-Ending-clause-read : goal.returns-in-Ending-clause-read
returns-in-Ending-clause-read g c = rw (c.in-Ending.is, c.requires.none_read) (ends refl c.if-self-ne0.false refl)
