-- Laws of the buffer: what is left of its text. Assumes nothing.
use mathlib.Core.Path.{◌≡◌, refl, sym, ap, ap₂, ◌∙◌}
use mathlib.Core.Bool.{Bool, true, false, cond}
use mathlib.Core.List.{List}
use Prim.Native.Nat.{ℕ, ◌+◌, ◌-◌, ◌≤◌}
use native.Mathlib.Omega.{arith}
use lib.Dec.{eqb}
use lib.ListN.{length, take, drop}
use lib.Seq.{take-add, drop_at, length-take-le}
use borrow.Author.Tests.{eqb-true}
use Rattle.octets.specs.Octets.{part}
use Rattle.octets.proofs.Places.{part_length}
use Rattle.tally_kept.specs.Kept.{cut_length, kept_length}
use Rattle.tally_kept.proofs.Laws.{cut_take, kept_most}
use Rattle.tally_feed.specs.Feed.{left_of}

module _ (buf : List ℕ) (read len : ℕ) (h : read ≤ len) (room : len ≤ length buf) where
  behind : drop read (take len buf) ≡ take (len - read) (drop read buf)
  behind =
      let e : len ≡ read + (len - read) = omega arith in
      ap (λ j. drop read (take j buf)) e ∙ ap (drop read) (take-add read (len - read) buf)
      ∙ drop_at (take read buf) (take (len - read) (drop read buf)) read (length-take-le read buf (omega arith))

  pub left_bytes : part read (kept_length read (len - read)) buf ≡ left_of (take len buf) read
  unfolding part kept_length
  left_bytes = go (eqb read 0) refl
    where
      go : (q : Bool) → eqb read 0 ≡ q → take (cond q (cut_length (len - read)) (len - read)) (drop read buf) ≡ cond q (take 1024 (take len buf)) (drop read (take len buf))
      go true e =
          let z : read ≡ 0 = eqb-true read 0 e in
          let n : len - read ≡ len = omega (arith, z) in
          ap₂ (λ j k. take (cut_length j) (drop k buf)) n z ∙ cut_take len buf room
      go false e = sym behind

  pub left_count : kept_length read (len - read) ≡ length (left_of (take len buf) read)
  left_count = sym (part_length read (kept_length read (len - read)) buf (omega (arith, kept_most read (len - read)))) ∙ ap length left_bytes
