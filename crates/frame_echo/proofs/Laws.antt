-- Laws of lines that are echoed. Assumes nothing.
use mathlib.Core.Path.{◌≡◌, refl, sym, ap, ◌∙◌}
use mathlib.Core.Bool.{Bool, true, false, cond, ◌&&◌}
use mathlib.Core.List.{List, [], ◌∷◌, ◌++◌}
use Prim.Native.Nat.{ℕ, ◌*◌, ◌%◌, ◌≤◌}
use native.Mathlib.Omega.{arith}
use lib.ListN.{length, take, drop}
use lib.Seq.{take_at}
use lib.Dec.{eqb, leb}
use borrow.Author.Tests.{eqb-true, le-leb}
use Rattle.std.specs.Prelude.{Option}
use Rattle.octets.proofs.Numbers.{both}
use Rattle.frame.specs.Hex.{all_hex, unhex, hex}
use Rattle.frame.specs.Field.{are_fields, may}
use Rattle.frame.specs.Frame.{layout, is_frame, commands_of, line_frame, given, read_frame, command_frame, write_frame}
use Rattle.frame.specs.Filled.{Filled}
use Rattle.frame.proofs.Layouts.{frame_length}
use Rattle.frame.proofs.Lines.{unhex_bytes, hex_unhex}
use Rattle.frame.proofs.OneToOneProof.{carries, carried}
use Rattle.frame_reader.proofs.Reader.{unhex_length}
use Rattle.command.specs.declared.Command.{Command}
use Rattle.command.specs.View.{commands}
use Rattle.command.proofs.ByKind.{frame_some}
use Rattle.frame_echo.specs.Printed.{is_line, echoed}

-- ---- a line that is a frame, and one that is none

-- what is so in both cases
by_line : (line : List ℕ) (P : List ℕ → List ℕ → Type 0)
    → (length line % 2 ≡ 0 → all_hex line ≡ true → is_frame (unhex line) ≡ true → P (unhex line) line) → P [] []
    → P (line_frame line) (cond (is_line line) line [])
unfolding line_frame is_line
by_line line P f g = go ((eqb (length line % 2) 0 && all_hex line) && is_frame (unhex line)) refl
  where
    go : (t : Bool) → ((eqb (length line % 2) 0 && all_hex line) && is_frame (unhex line)) ≡ t
        → P (cond t (unhex line) []) (cond (leb 1 (length (cond t (unhex line) []))) line [])
    go true e =
        let p = both (eqb (length line % 2) 0 && all_hex line) (is_frame (unhex line)) e in
        let q = both (eqb (length line % 2) 0) (all_hex line) p.0 in
        rw (le-leb 1 (length (unhex line)) (frame_some (unhex line) p.1)) (f (eqb-true (length line % 2) 0 q.0) q.1 p.1)
    go false e = g

module _ (line : List ℕ) where
  pub frame_most : length (line_frame line) ≤ 352
  frame_most = by_line line (λ f l. length f ≤ 352) (λ o h g. frame_length (unhex line) g) (omega arith)

  pub frame_half : 2 * length (line_frame line) ≤ length line
  frame_half = by_line line (λ f l. 2 * length f ≤ length line) (λ o h g. omega (arith, unhex_length line)) (omega arith)

  pub frame_again : command_frame (commands_of (line_frame line)) ≡ line_frame line
  unfolding command_frame commands_of is_frame layout are_fields may
  frame_again =
      by_line line (λ f l. command_frame (commands_of f) ≡ f)
      (λ o h g.
      let a = unhex_bytes line h in
      let k = carries (unhex line) a g in
      rw (carried (unhex line) a g, k.in_range) k.framed)
      refl

  pub frame_digits : hex (line_frame line) ≡ cond (is_line line) line []
  unfolding hex
  frame_digits = by_line line (λ f l. hex f ≡ l) (λ o h g. hex_unhex line o h) refl

-- ---- read and written again

pub read_most : (line : List ℕ) (room : ℕ) → length (read_frame line room) ≤ 352
unfolding read_frame given
read_most line room = elim (leb 352 room) as (λ (t : Bool). length (cond t (line_frame line) []) ≤ 352) [ true ↦ frame_most line | false ↦ omega arith ]

pub read_front : (line entry exit : List ℕ) (n : ℕ) → Filled (read_frame line 352) entry exit n → take n exit ≡ line_frame line
unfolding read_frame given
read_front line entry exit n w = ap (take n) w.bytes_are ∙ take_at (line_frame line) (drop (length (line_frame line)) entry) n (sym w.length_is)

pub rewritten : (line : List ℕ) (o : Option Command) (room : ℕ) → commands o ≡ commands_of (line_frame line) → write_frame (commands o) room ≡ read_frame line room
unfolding write_frame read_frame
rewritten line o room e = ap (given room) (ap command_frame e ∙ frame_again line)

-- ---- echoed

-- the digits and the line end
pub echo_done : (line front : List ℕ) → front ≡ line_frame line → hex front ++ (10 ∷ []) ≡ echoed line
unfolding echoed
echo_done line front f = ap (λ l. l ++ (10 ∷ [])) (ap hex f ∙ frame_digits line)
