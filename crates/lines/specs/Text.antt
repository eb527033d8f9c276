-- The lines of a text and the printed form of an answer (paper 01, "Frames"). Assumes nothing.
use Rattle.std.specs.Prelude.{cond, List, [], ◌∷◌, ◌++◌, ℕ, suc, ◌+◌, ◌*◌, ◌/◌, ◌%◌, leb, eqb, length, drop}
use Rattle.frame.specs.Hex.{hex}

-- how many bytes stand before the first line end, or in all where there is none
unfoldable pub line_length : List ℕ → ℕ
line_length [] = 0
line_length (b ∷ t) = cond (eqb b 10) 0 (suc (line_length t))

-- a byte in front of the first line, where there is one
abbrev pub push : ℕ → List (List ℕ) → List (List ℕ)
push b [] = []
push b (l ∷ ls) = (b ∷ l) ∷ ls

-- the lines that have their end, without it; what stands behind the last end is no whole line
unfoldable pub whole_lines : List ℕ → List (List ℕ)
whole_lines [] = []
whole_lines (b ∷ t) = cond (eqb b 10) ([] ∷ whole_lines t) (push b (whole_lines t))

-- lines with their ends
unfoldable pub joined : List (List ℕ) → List ℕ
joined [] = []
joined (l ∷ ls) = (l ++ (10 ∷ [])) ++ joined ls

-- the bytes lent to a line for its report
abbrev pub report_room : ℕ
report_room = 8192

-- the bytes of the longest answer line that may come of it: 2 digits, 2 for each byte of the report, the end
abbrev pub answer_room : ℕ
answer_room = 2 * report_room + 3

-- where the line that begins at the place `from` ends, if it has its end and there is room for the longest answer line. Else the text's length
unfoldable pub next_end : List ℕ → ℕ → ℕ → ℕ
next_end input from room = cond (leb answer_room room) (from + line_length (drop from input)) (length input)

-- the answer as two decimal digits, directly followed by the report in hexadecimal, and the line end
unfoldable pub printed : ℕ → List ℕ → List ℕ
printed a r = (48 + a / 10) ∷ (48 + a % 10) ∷ (hex r ++ (10 ∷ []))
