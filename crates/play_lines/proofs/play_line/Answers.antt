-- A line's bytes are played; where it is no digits, there are none. Assumes nothing.
use Rattle.std.proofs.Common.{◌≡◌, true, false, Bool, cond, refl, sym, ap, ◌∙◌, List, ℕ, length, take, drop}
use mathlib.Core.List.{[]}
use lib.Seq.{take_at}
use Rattle.frame.specs.Field.{are_fields, may}
use Rattle.frame.specs.Frame.{commands_of, is_frame, layout, line_frame}
use Rattle.frame.specs.Filled.{Filled}
use Rattle.frame_reader.specs.Unpacked.{unpacked}
use Rattle.frame_reader.proofs.Reader.{line_frame_lem}
use Rattle.command.proofs.ByKind.{frame_none}
use Rattle.play_lines.proofs.play_line.Goals as goal

-- the commands of a line's bytes are those of the frame that it is
line_commands : (line : List ℕ) → commands_of (unpacked line) ≡ commands_of (line_frame line)
unfolding is_frame layout are_fields may
line_commands line = go (is_frame (unpacked line)) refl
  where
    go : (b : Bool) → is_frame (unpacked line) ≡ b → commands_of (unpacked line) ≡ commands_of (line_frame line)
    go true t = ap commands_of (sym (ap (λ (b : Bool). cond b (unpacked line) []) t) ∙ line_frame_lem line)
    go false t =
        let none : line_frame line ≡ [] = sym (line_frame_lem line) ∙ ap (λ (b : Bool). cond b (unpacked line) []) t in
        frame_none (unpacked line) t ∙ sym (ap commands_of none ∙ frame_none [] refl)

pub returns : goal.returns
returns c =
    let line = c.args.line.now in
    let f : Filled (unpacked line) c.args.frame.now c.unpack.new.buf c.unwrap_or-n.result = rw c.unwrap_or-n.ensures c.unpack.ensures.1 in
    let front : take c.unwrap_or-n.result c.unpack.new.buf ≡ unpacked line = rw f.bytes_are (take_at (unpacked line) (drop (length (unpacked line)) c.args.frame.now) c.unwrap_or-n.result (sym f.length_is)) in
    rw (sym (line_commands line) ∙ ap commands_of (sym front)) c.step.ensures
