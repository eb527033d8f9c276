-- What is printed of an input is the echo of each of its lines. Assumes nothing.
use mathlib.Core.Path.{◌≡◌, refl, sym, ap, ap₂, ◌∙◌}
use mathlib.Core.Bool.{Bool, true, false, cond, ◌&&◌}
use mathlib.Core.List.{List, [], ◌∷◌, ◌++◌, append_assoc, append-nil}
use Prim.Native.Nat.{ℕ, ◌≤◌, ◌%◌}
use native.Mathlib.Omega.{arith}
use native.Mathlib.Decide.{dec_le}
use lib.ListN.{length, take}
use lib.Seq.{length-take-le, take_all}
use lib.Dec.{eqb}
use borrow.Author.Tests.{ne_eqb}
use Rattle.frame.specs.Hex.{hex, all_hex, unhex}
use Rattle.frame.specs.Frame.{is_frame, line_frame}
use Rattle.frame_reader.proofs.Reader.{long}
use Rattle.lines.specs.Text.{push, whole_lines}
use Rattle.frame_echo.specs.Printed.{echoed, grown, begun, printed, last}
use Rattle.frame_echo.specs.Lines.{echoes, LinesEchoed}
use Rattle.frame_echo.proofs.Laws.{frame_digits}
use Rattle.frame_echo.proofs.Begun.{take_cut, begun_then, printed_then, last_none}

-- ---- a long line and what is kept of it are no frames

odd : (line : List ℕ) → (length line % 2 ≡ 0 → ⊥) → line_frame line ≡ []
unfolding line_frame
odd line h = ap (λ (t : Bool). cond ((t && all_hex line) && is_frame (unhex line)) (unhex line) []) (ne_eqb (length line % 2) 0 h)

none_echoed : (line : List ℕ) → line_frame line ≡ [] → echoed line ≡ 10 ∷ []
unfolding echoed hex
none_echoed line e = ap (λ (l : List ℕ). l ++ (10 ∷ [])) (sym (frame_digits line) ∙ ap hex e)

cut_echoed : (line : List ℕ) → echoed (take 705 line) ≡ echoed line
cut_echoed line = go (dec_le (length line) 705)
  where
    go : Dec (length line ≤ 705) → echoed (take 705 line) ≡ echoed line
    go (yes h) = ap echoed (take_all 705 line h)
    go (no h) =
        let n : length (take 705 line) ≡ 705 = length-take-le 705 line (omega arith) in
        none_echoed (take 705 line) (odd (take 705 line) (λ e. omega (arith, n, e))) ∙ sym (none_echoed line (long line (omega arith)))

cut_grown : (line : List ℕ) (b : ℕ) → grown (take 705 line) b ≡ take 705 (line ++ (b ∷ []))
unfolding grown
cut_grown line b = take_cut 705 line (b ∷ [])

-- ---- lines behind a begun line

behind : List ℕ → List (List ℕ) → List (List ℕ)
behind line [] = []
behind line (l ∷ ls) = (line ++ l) ∷ ls

behind_none : (ls : List (List ℕ)) → behind [] ls ≡ ls
unfolding behind
behind_none [] = refl
behind_none (l ∷ ls) = refl

behind_push : (line : List ℕ) (b : ℕ) (ls : List (List ℕ)) → behind (line ++ (b ∷ [])) ls ≡ behind line (push b ls)
unfolding behind
behind_push line b [] = refl
behind_push line b (l ∷ ls) = ap (λ (m : List ℕ). m ∷ ls) (append_assoc line (b ∷ []) l)

printed_behind : (line t : List ℕ) → printed (take 705 line) t ≡ echoes (behind line (whole_lines t))
unfolding behind printed echoes whole_lines
printed_behind line [] = refl
printed_behind line (b ∷ t) = go (eqb b 10) (printed_behind [] t) (printed_behind (line ++ (b ∷ [])) t)
  where
    go : (q : Bool) → printed [] t ≡ echoes (behind [] (whole_lines t)) → printed (take 705 (line ++ (b ∷ []))) t ≡ echoes (behind (line ++ (b ∷ [])) (whole_lines t))
        → cond q (echoed (take 705 line)) [] ++ printed (cond q [] (grown (take 705 line) b)) t ≡ echoes (behind line (cond q ([] ∷ whole_lines t) (push b (whole_lines t))))
    go true e f = ap₂ ◌++◌ (cut_echoed line ∙ ap echoed (sym (append-nil line))) (e ∙ ap echoes (behind_none (whole_lines t)))
    go false e f = ap (λ (l : List ℕ). printed l t) (cut_grown line b) ∙ f ∙ ap echoes (behind_push line b (whole_lines t))

all_printed : (input : List ℕ) → printed [] input ≡ echoes (whole_lines input)
all_printed input = printed_behind [] input ∙ ap echoes (behind_none (whole_lines input))

-- ---- the last line

last_end_lem : (line : List ℕ) → ¬ (line ≡ []) → last line ≡ printed line (10 ∷ [])
unfolding last printed
last_end_lem [] n = absurd (n refl)
last_end_lem (b ∷ line) n = sym (append-nil (echoed (b ∷ line)))

pub lines_echoed : LinesEchoed
lines_echoed =
    record {
      reads = printed_then;
      begins = begun_then;
      ended = λ input e. ap (λ (l : List ℕ). printed [] input ++ l) (last_none (begun [] input) (ap length e)) ∙ append-nil (printed [] input) ∙ all_printed input;
      unended = λ input n.
          ap (λ (l : List ℕ). printed [] input ++ l) (last_end_lem (begun [] input) n) ∙ sym (printed_then [] input (10 ∷ [])) ∙ all_printed (input ++ (10 ∷ []));
    }
