use Rattle.std.proofs.Common.{rules}
use Rattle.std.proofs.lemmas.Nat.{be_bytes_8}
use Rattle.octets.proofs.Numbers.{number_read}
use Rattle.octets.proofs.U64Octets8.of_octets.Goals as goal

pub returns : goal.returns
returns c =
    let n = c.from_be_bytes.result in
    number_read 8 n c.args.octets.now (be_bytes_8 c.args.octets.now n (search rules) (search rules) c.from_be_bytes.ensures) c.from_be_bytes.type_inv
