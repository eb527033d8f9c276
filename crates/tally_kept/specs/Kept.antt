-- How much of a begun line is kept for the next read, and the end of the last line. Assumes nothing.
use Rattle.std.specs.Prelude.{cond, List, [], ◌∷◌, ℕ, zero, suc, min, eqb}

-- how much is kept of a begun line of n bytes: its first 1,024
abbrev pub cut_length : ℕ → ℕ
cut_length n = min n 1024

-- how much is kept of n bytes that stand behind the lines played, which have `from` bytes: all, or, where no line was played, what is kept of a begun line
unfoldable pub kept_length : ℕ → ℕ → ℕ
kept_length from n = cond (eqb from 0) (cut_length n) n

-- the end that the last line lacks, where a byte of it is kept
unfoldable pub last_end : ℕ → List ℕ
last_end zero = []
last_end (suc n) = 10 ∷ []
