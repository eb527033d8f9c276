-- What a frame of a known kind holds: where its fields end, and the command. Assumes nothing.
use mathlib.Core.Path.{◌≡◌}
use mathlib.Core.Bool.{true, false}
use mathlib.Core.List.{List, [], ◌∷◌}
use Prim.Native.Nat.{ℕ, ◌+◌, ◌<◌}
use lib.ListN.{length, get_or}
use borrow.Author.Tests.{eqb-true}
use Rattle.octets.proofs.Numbers.{both}
use Rattle.frame.specs.Field.{Field, size, width, may, are_fields}
use Rattle.frame.specs.Frame.{Kind, K01, K02, K03, K04, K05, K06, K0a, K0c, K13, kind_byte, fields_of, layout, is_frame, commands_of}
use Rattle.frame.proofs.Fields.{fields_within}
pub use Rattle.frame.proofs.Commands.{kind_fields, kind_command}

-- the place behind fields that begin at i
unfoldable pub end : List Field → List ℕ → ℕ → ℕ
end [] b i = i
end (f ∷ fs) b i = end fs b (i + width f b i)

pub fields_end : (fs : List Field) (b : List ℕ) (i : ℕ) → are_fields fs b i ≡ true → length b ≡ end fs b i
unfolding are_fields end
fields_end [] b i h = eqb-true (length b) i h
fields_end (f ∷ fs) b i h = fields_end fs b (i + width f b i) (both (may f b i) (are_fields fs b (i + width f b i)) h).1

-- a frame has a kind byte
pub frame_some : (b : List ℕ) → is_frame b ≡ true → 0 < length b
unfolding is_frame
frame_some b h = fields_within (layout (get_or b 0 0)) b 1 h

-- no command
pub frame_none : (b : List ℕ) → is_frame b ≡ false → commands_of b ≡ []
unfolding commands_of
frame_none b h = rw h

-- where a known kind's fields end
pub kind_length : (k : Kind) (b : List ℕ) → is_frame b ≡ true → get_or b 0 0 ≡ kind_byte k → length b ≡ end (fields_of k) b 1
kind_length k b h e = fields_end (fields_of k) b 1 (kind_fields k b h e)

-- of each kind whose frames are all as long
pub frame_lengths : (b : List ℕ) → is_frame b ≡ true
    → (get_or b 0 0 ≡ 1 → length b ≡ 7) × (get_or b 0 0 ≡ 2 → length b ≡ 15) × (get_or b 0 0 ≡ 3 → length b ≡ 15) × (get_or b 0 0 ≡ 4 → length b ≡ 15)
    × (get_or b 0 0 ≡ 5 → length b ≡ 23) × (get_or b 0 0 ≡ 6 → length b ≡ 22) × (get_or b 0 0 ≡ 10 → length b ≡ 5) × (get_or b 0 0 ≡ 12 → length b ≡ 8)
    × (get_or b 0 0 ≡ 19 → length b ≡ 7)
unfolding kind_byte fields_of end width size
frame_lengths b h =
    (kind_length K01 b h, kind_length K02 b h, kind_length K03 b h, kind_length K04 b h, kind_length K05 b h, kind_length K06 b h, kind_length K0a b h, kind_length K0c b h, kind_length K13 b h)
