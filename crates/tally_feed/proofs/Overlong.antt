-- A line of 1,024 bytes or more holds no command, and neither does what is kept of it. Assumes nothing.
use mathlib.Core.Path.{◌≡◌, sym, ap, ◌∙◌}
use mathlib.Core.List.{List, [], ◌++◌}
use Prim.Native.Nat.{ℕ, ◌+◌, ◌≤◌}
use native.Mathlib.Omega.{arith}
use lib.ListN.{length, take, length-append}
use lib.Seq.{length-take-le}
use Rattle.frame.specs.Field.{are_fields, may}
use Rattle.frame.specs.Frame.{is_frame, layout, commands_of}
use Rattle.frame_reader.proofs.Reader.{long}
use Rattle.play_lines.specs.Lines.{commands_in}

-- a frame has at most 352 bytes, which are 704 digits
pub long_none : (l : List ℕ) → 1024 ≤ length l → commands_in l ≡ []
unfolding commands_in commands_of is_frame layout are_fields may
long_none l h = ap commands_of (long l (omega arith))

-- of a line that is too long for a frame the first 1,024 bytes are answered like all of it, whatever comes behind them
pub cut_same : (k more : List ℕ) → 1024 ≤ length k → commands_in (take 1024 k ++ more) ≡ commands_in (k ++ more)
cut_same k more h =
    let short : length (take 1024 k ++ more) ≡ 1024 + length more = length-append (take 1024 k) more ∙ ap (λ n. n + length more) (length-take-le 1024 k h) in
    long_none (take 1024 k ++ more) (omega arith) ∙ sym (long_none (k ++ more) (omega (arith, length-append k more)))
