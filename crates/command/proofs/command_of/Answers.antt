use mathlib.Core.Path.{sym, ◌∙◌}
use mathlib.Core.Bool.{false≢true}
use native.Mathlib.Omega.{arith}
use lib.ListN.{get_or}
use Rattle.frame.specs.Field.{size, width, plain_value, value_of, all_values}
use Rattle.frame.specs.Frame.{K01, K02, K03, K04, K05, K0a, K0c, K13, kind_byte, kinds, kinds_at, fields_of, command_of}
use Rattle.frame.proofs.Commands.{kind_none, Rest, rest_none}
use Rattle.amount.proofs.Integer.{back}
use Rattle.command.specs.View.{to_command}
use Rattle.octets.proofs.Places.{part_first}
use Rattle.command.proofs.ByKind.{kind_command}
use Rattle.command.proofs.command_of.Goals as goal

pub change-requires : goal.change-requires
change-requires c =
    (c.requires, c.in-7.is)

pub deletion-requires : goal.deletion-requires
deletion-requires c =
    (c.requires, c.in-8.is)

pub query-requires : goal.query-requires
query-requires c =
    (c.requires, c.in-9.is)

pub search-requires : goal.search-requires
search-requires c =
    (c.requires, c.in-11.is)

pub returns-in-1 : goal.returns-in-1
unfolding to_command kind_byte fields_of command_of all_values value_of plain_value width size
returns-in-1 c =
    rw c.code_at.ensures (sym (kind_command K01 c.args.b.now c.requires c.in-1.is))

pub returns-in-2 : goal.returns-in-2
unfolding to_command kind_byte fields_of command_of all_values value_of plain_value width size
returns-in-2 c =
    rw (c.code_at-in-2.ensures, c.code_at-in-2-2.ensures) (sym (rw (part_first 13 1 c.args.b.now (omega arith), part_first 14 1 c.args.b.now (omega arith)) at (kind_command K02 c.args.b.now c.requires c.in-2.is)))

pub returns-in-3 : goal.returns-in-3
unfolding to_command kind_byte fields_of command_of all_values value_of plain_value width size
returns-in-3 c =
    rw (c.code_at-in-3.ensures, back c.read.result c.read.type_inv, c.read.ensures) (sym (kind_command K03 c.args.b.now c.requires c.in-3.is))

pub returns-in-4 : goal.returns-in-4
unfolding to_command kind_byte fields_of command_of all_values value_of plain_value width size
returns-in-4 c =
    rw (c.code_at-in-4.ensures, back c.read-in-4.result c.read-in-4.type_inv, c.read-in-4.ensures) (sym (kind_command K04 c.args.b.now c.requires c.in-4.is))

pub returns-in-5 : goal.returns-in-5
unfolding to_command kind_byte fields_of command_of all_values value_of plain_value width size
returns-in-5 c =
    rw (c.code_at-in-5.ensures, back c.read-in-5.result c.read-in-5.type_inv, c.read-in-5.ensures, back c.read-in-5-2.result c.read-in-5-2.type_inv, c.read-in-5-2.ensures) (sym (kind_command K05 c.args.b.now c.requires c.in-5.is))

pub returns-in-10 : goal.returns-in-10
unfolding to_command kind_byte fields_of command_of all_values value_of plain_value width size
returns-in-10 c =
    rw c.read-in-10.ensures (sym (kind_command K0a c.args.b.now c.requires c.in-10.is))

pub returns-in-12 : goal.returns-in-12
unfolding to_command kind_byte fields_of command_of all_values value_of plain_value width size
returns-in-12 c =
    rw c.code_at-in-12.ensures (sym (rw (part_first 7 1 c.args.b.now (omega arith)) at (kind_command K0c c.args.b.now c.requires c.in-12.is)))

pub returns-in-19 : goal.returns-in-19
unfolding to_command kind_byte fields_of command_of all_values value_of plain_value width size
returns-in-19 c =
    rw c.code_at-in-19.ensures (sym (kind_command K13 c.args.b.now c.requires c.in-19.is))

pub unreachable-requires : goal.unreachable-requires
unfolding kind_byte kinds kinds_at Rest
unreachable-requires c =
    let none = kind_none c.args.b.now (rest_none (Unit {0}) kinds (get_or c.args.b.now 0 0) c.in_default.in_default-own.rest).1 in
    absurd (false≢true (sym none ∙ c.requires))
