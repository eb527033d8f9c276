-- What `frame_echo` prints. Assumes nothing.
use Rattle.std.specs.Prelude.{◌≡◌, Bool, cond, List, [], ◌∷◌, ◌++◌, ℕ, ◌+◌, leb, eqb, length, take}
use Rattle.octets.specs.Octets.{write}
use Rattle.frame.specs.Frame.{line_frame}

-- a line that the reader takes: the frame that it gives is not nothing
unfoldable pub is_line : List ℕ → Bool
is_line line = leb 1 (length (line_frame line))

-- of a line: the line itself where it is a frame, else nothing; and its end
unfoldable pub echoed : List ℕ → List ℕ
echoed line = cond (is_line line) line [] ++ (10 ∷ [])

-- a begun line and one byte more, which is no line end. 705 bytes are kept: no frame has more than 704 digits
unfoldable pub grown : List ℕ → ℕ → List ℕ
grown line b = take 705 (line ++ (b ∷ []))

-- what is begun behind a begun line and some bytes more
unfoldable pub begun : List ℕ → List ℕ → List ℕ
begun line [] = line
begun line (b ∷ t) = begun (cond (eqb b 10) [] (grown line b)) t

-- what is printed of them
unfoldable pub printed : List ℕ → List ℕ → List ℕ
printed line [] = []
printed line (b ∷ t) = cond (eqb b 10) (echoed line) [] ++ printed (cond (eqb b 10) [] (grown line b)) t

-- what is printed of a begun line at the end of the input: a line of no bytes is none
unfoldable pub last : List ℕ → List ℕ
last [] = []
last (b ∷ line) = echoed (b ∷ line)

-- Behind a begun line came some bytes: what is begun now is the line afterwards, and what is printed stands in the output from the place `at` on
pub record EchoIs (line bytes : List ℕ) (at : ℕ) (out out' line' : List ℕ) (end : ℕ) : Type 0 where
  pub begun_is : line' ≡ begun line bytes
  pub end_is : end ≡ at + length (printed line bytes)
  pub out_is : out' ≡ write out at (printed line bytes)
