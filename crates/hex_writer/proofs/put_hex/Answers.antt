use native.Mathlib.Omega.{arith}
use Rattle.octets.proofs.Places.{write_mid}
use Rattle.hex_writer.proofs.Laws.{hex_length}
use Rattle.hex_writer.proofs.put_hex.Goals as goal

pub returns-clause-wrote : goal.returns-clause-wrote
returns-clause-wrote c =
    let n = hex_length c.args.src.now in
    record { bytes = write_mid _ _ _ _ _ c.fill_hex.ensures (omega (arith, n)) (omega (arith, n, c.requires)); behind = omega (arith, n) }
