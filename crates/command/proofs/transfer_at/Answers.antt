use mathlib.Core.Path.{sym}
use native.Mathlib.Omega.{arith}
use Rattle.amount.proofs.Integer.{back}
use Rattle.octets.proofs.Places.{part_first}
use Rattle.frame.specs.Field.{size, width, plain_value, value_of, all_values}
use Rattle.frame.specs.Frame.{K06, kind_byte, fields_of, command_of}
use Rattle.command.specs.View.{to_command}
use Rattle.command.proofs.ByKind.{kind_command}
use Rattle.command.proofs.transfer_at.Goals as goal

pub returns : goal.returns
unfolding to_command kind_byte fields_of command_of all_values value_of plain_value width size
returns c =
    rw (c.code_at.ensures, c.code_at-2.ensures, back c.read.result c.read.type_inv, c.read.ensures) (sym (rw (part_first 1 1 c.args.b.now (omega arith)) at (kind_command K06 c.args.b.now c.requires.0 c.requires.1)))
