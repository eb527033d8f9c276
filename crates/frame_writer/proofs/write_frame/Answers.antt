use native.Mathlib.Omega.{arith}
use mathlib.Core.List.{[], ◌∷◌}
use borrow.Author.Rules.{rules}
use Rattle.frame.specs.Frame.{command_frame}
use Rattle.command.specs.View.{to_command, commands}
use Rattle.frame_code_writer.proofs.Fields.{nothing, filled, without_room}
use Rattle.frame_writer.proofs.write_frame.Goals as goal

pub returns-then-frame-lt352 : goal.returns-then-frame-lt352
returns-then-frame-lt352 c = without_room (commands c.args.command) c.args.frame.now (omega arith)

pub returns-in_default : goal.returns-in_default
unfolding commands command_frame
returns-in_default c = rw c.in_default.is (filled [] c.args.frame.now (omega arith) (omega arith) nothing)

pub returns : goal.returns
unfolding commands
returns c =
    let w = rw (c.new-w.ensures.1, c.new-w.ensures.2) at c.write_command.ensures.wrote in
    let f = filled (to_command c.in-Some.command ∷ []) c.args.frame.now (omega arith) (omega (arith, c.new-w.ensures.2)) w in
    rw c.in-Some.is (search rules)
