-- Parsing after writing and writing after parsing (demand 2 of paper 01), of the functions that run. Each is known by its `ensures` alone, which stands
-- here word for word:
--   `parse` in command/src, of the bytes b, giving p, a command or none:
--     commands p ≡ commands_of b
--   `command_of` and `transfer_at` in command/src, of the bytes b of a frame, giving the command c, of `transfer_at` a payment:
--     to_command c ∷ [] ≡ commands_of b
--   `write_frame` in frame_writer/src, of o, a command or none, and a buffer that held `entry` and then holds `exit`, giving the length r:
--     Filled (write_frame (commands o) (length entry)) entry exit r
-- Assumes nothing.
use Rattle.std.specs.Prelude.{◌≡◌, true, Option, List, [], ◌∷◌, ℕ, ◌<◌, ◌≤◌, length, take}
use Rattle.octets.specs.Octets.{are_bytes}
use Rattle.rules.specs.Command as Rule
use Rattle.rules.specs.Command.{well_formed}
use Rattle.frame.specs.Frame.{is_frame, commands_of, write_frame}
use Rattle.frame.specs.Filled.{Filled}
use Rattle.command.specs.declared.Command.{Command}
use Rattle.command.specs.View.{to_command, commands}

pub record RoundTrip : Type 0 where
  -- a command that is in range is written, where the buffer has room
  pub accepted : (o : Option Command) (c : Rule.Command) (entry exit : List ℕ) (r : ℕ)
      → commands o ≡ c ∷ []
      → well_formed c ≡ true
      → 352 ≤ length entry
      → Filled (write_frame (commands o) (length entry)) entry exit r
      → 0 < r
  -- what was written is parsed as the command that was given
  pub written_parsed : (o p : Option Command) (entry exit : List ℕ) (r : ℕ)
      → Filled (write_frame (commands o) (length entry)) entry exit r
      → 0 < r
      → commands p ≡ commands_of (take r exit)
      → commands p ≡ commands o
  -- what was parsed of a frame is written as that frame: its bytes from byte 0 on, the rest as it was, and its length given
  pub parsed_written : (b : List ℕ) (p : Option Command) (entry exit : List ℕ) (r : ℕ)
      → are_bytes b ≡ true
      → is_frame b ≡ true
      → 352 ≤ length entry
      → commands p ≡ commands_of b
      → Filled (write_frame (commands p) (length entry)) entry exit r
      → Filled b entry exit r
  -- the same of a command that is taken from the bytes of a frame
  pub written_taken : (o : Option Command) (c : Command) (entry exit : List ℕ) (r : ℕ)
      → Filled (write_frame (commands o) (length entry)) entry exit r
      → 0 < r
      → to_command c ∷ [] ≡ commands_of (take r exit)
      → to_command c ∷ [] ≡ commands o
  pub taken_written : (b : List ℕ) (c : Command) (entry exit : List ℕ) (r : ℕ)
      → are_bytes b ≡ true
      → is_frame b ≡ true
      → 352 ≤ length entry
      → to_command c ∷ [] ≡ commands_of b
      → Filled (write_frame (to_command c ∷ []) (length entry)) entry exit r
      → Filled b entry exit r
