use mathlib.Core.Path.{refl}
use native.Mathlib.Omega.{arith}
use Rattle.octets.proofs.Places.{write_mid}
use Rattle.octet_writer.proofs.Writer.put_all.Goals as goal

pub returns-clause-wrote : goal.returns-clause-wrote
returns-clause-wrote c =
    record { bytes = write_mid _ _ _ _ _ c.copy_from_slice.ensures.after (omega arith) (omega arith); behind = refl }
