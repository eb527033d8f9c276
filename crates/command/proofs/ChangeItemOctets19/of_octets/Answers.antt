use native.Mathlib.Omega.{arith}
use lib.Seq.{drop-drop}
use Rattle.amount.proofs.Integer.{back}
use Rattle.octets.specs.Octets.{part}
use Rattle.octets.proofs.Places.{number_one}
use Rattle.frame.specs.Field.{row_value, plain_value, size}
use Rattle.command.specs.Item.{item_in}
use Rattle.command.proofs.ChangeItemOctets19.of_octets.Goals as goal

pub returns : goal.returns
unfolding item_in row_value plain_value size part
returns c =
    let bs = c.args.octets.now in
    rw (c.read.ensures, back c.read-2.result c.read-2.type_inv, c.read-2.ensures, number_one 10 bs (omega arith), drop-drop 1 10 bs)
