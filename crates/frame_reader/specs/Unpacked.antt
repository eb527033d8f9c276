-- The bytes that a line's digits are, and the frame that a line is. Assumes nothing.
use Rattle.std.specs.Prelude.{◌≡◌, Bool, cond, ◌&&◌, List, [], ℕ, ◌/◌, ◌%◌, eqb, leb, length, take}
use Rattle.frame.specs.Hex.{all_hex, unhex}
use Rattle.frame.specs.Frame.{line_frame}

-- pairs of hexadecimal digits, of at most 352 bytes
unfoldable pub is_packed : List ℕ → Bool
is_packed line = (eqb (length line % 2) 0 && leb (length line / 2) 352) && all_hex line

-- the bytes of a line, or nothing where it is no such digits
unfoldable pub unpacked : List ℕ → List ℕ
unpacked line = cond (is_packed line) (unhex line) []

-- the frame that a line is stands from byte 0 on and has n bytes
pub record FrameAt (line bytes : List ℕ) (n : ℕ) : Type 0 where
  pub length_is : n ≡ length (line_frame line)
  pub frame_is : take n bytes ≡ line_frame line
