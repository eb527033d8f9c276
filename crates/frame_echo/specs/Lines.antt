-- What `frame_echo` prints of an input, cut into whatever reads: the echo of each line, in order. Assumes nothing.
use Rattle.std.specs.Prelude.{◌≡◌, Option, List, [], ◌∷◌, ◌++◌, ℕ}
use Rattle.std.specs.Io.KnownBytes.{Consumes, Appends, IsAtEnd}
use Rattle.lines.specs.Text.{whole_lines}
use Rattle.frame_echo.specs.Printed.{echoed, begun, printed, last}

unfoldable pub echoes : List (List ℕ) → List ℕ
echoes [] = []
echoes (line ∷ lines) = echoed line ++ echoes lines

pub record LinesEchoed : Type 0 where
  -- what is printed of two reads is what is printed of both as one
  pub reads : (line a b : List ℕ) → printed line (a ++ b) ≡ printed line a ++ printed (begun line a) b
  pub begins : (line a b : List ℕ) → begun line (a ++ b) ≡ begun (begun line a) b
  -- an input whose last line has its end, and one whose last line lacks it
  pub ended : (input : List ℕ) → begun [] input ≡ [] → printed [] input ++ last (begun [] input) ≡ echoes (whole_lines input)
  pub unended : (input : List ℕ) → ¬ (begun [] input ≡ []) → printed [] input ++ last (begun [] input) ≡ echoes (whole_lines (input ++ (10 ∷ [])))

-- An input is read to its end, and what is printed of it is written: of what the reader had left and the writer held before and after, where that is known
pub record InputEchoed (left left' held held' : Option (List ℕ)) : Type 0 where
  pub input : List ℕ
  pub read : Consumes left left' input
  pub ended : IsAtEnd left'
  pub written : Appends held held' (printed [] input ++ last (begun [] input))
