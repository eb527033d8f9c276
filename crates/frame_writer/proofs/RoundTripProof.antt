-- The round trips of frames, from what `parse` and `write_frame` ensure. Assumes nothing.
use mathlib.Core.Path.{◌≡◌, refl, sym, ap, ◌∙◌}
use mathlib.Core.Bool.{Bool, true, false, cond}
use mathlib.Core.List.{List, [], ◌∷◌}
use Rattle.std.specs.Prelude.{Option, Some, None}
use mathlib.Core.Logic.{◌⊎◌, inl, inr}
use Prim.Native.Nat.{ℕ, ◌<◌, ◌≤◌}
use native.Mathlib.Omega.{arith}
use lib.ListN.{length, take, drop}
use lib.Seq.{take_at}
use lib.Dec.{leb}
use borrow.Author.Tests.{le-leb}
use Rattle.octets.specs.Octets.{are_bytes}
use Rattle.rules.specs.Command as Rule
use Rattle.rules.specs.Command.{well_formed}
use Rattle.frame.specs.Frame.{is_frame, frame_of, commands_of, given, command_frame, write_frame}
use Rattle.frame.specs.Filled.{Filled}
use Rattle.frame.proofs.OneToOneProof.{carries, carried, one_to_one}
use Rattle.command.specs.declared.Command.{Command}
use Rattle.command.specs.View.{to_command, commands}
use Rattle.frame_writer.specs.RoundTrip.{RoundTrip}

-- ---- one command or none

abbrev AtMostOne : List Rule.Command → Type 0
AtMostOne cs = (cs ≡ []) ⊎ ((c : Rule.Command) × (cs ≡ c ∷ []))

at_most_one : (o : Option Command) → AtMostOne (commands o)
unfolding commands
at_most_one None = inl refl
at_most_one (Some c) = inr (_, refl)

-- ---- what was written

none_written : (room : ℕ) → length (write_frame [] room) ≡ 0
unfolding write_frame given command_frame
none_written room = go (leb 352 room)
  where
    go : (t : Bool) → length (cond {A = List ℕ} t [] []) ≡ 0
    go true = refl
    go false = refl

-- a command that was written is in range, and its frame was
frame_written : (c : Rule.Command) (room : ℕ) → 0 < length (write_frame (c ∷ []) room) → (well_formed c ≡ true) × (write_frame (c ∷ []) room ≡ frame_of c)
unfolding write_frame given command_frame
frame_written c room h = go (leb 352 room) (well_formed c) refl h
  where
    go : (t u : Bool) → well_formed c ≡ u → 0 < length (cond t (cond u (frame_of c) []) []) → (well_formed c ≡ true) × (cond t (cond u (frame_of c) []) [] ≡ frame_of c)
    go true true e k = (e, refl)
    go true false e k = absurd (omega arith)
    go false u e k = absurd (omega arith)

-- what was got stands in front
front : (got entry exit : List ℕ) (r : ℕ) → Filled got entry exit r → take r exit ≡ got
front got entry exit r w = ap (take r) w.bytes_are ∙ take_at got (drop (length got) entry) r (sym w.length_is)

-- ---- together

accepted : (o : Option Command) (c : Rule.Command) (entry exit : List ℕ) (r : ℕ) → commands o ≡ c ∷ [] → well_formed c ≡ true → 352 ≤ length entry
    → Filled (write_frame (commands o) (length entry)) entry exit r → 0 < r
unfolding write_frame given command_frame frame_of
accepted o c entry exit r e h room w =
    let f : write_frame (commands o) (length entry) ≡ frame_of c = rw (e, le-leb 352 (length entry) room, h) in
    omega (arith, w.length_is, ap length f)

written_parsed : (o p : Option Command) (entry exit : List ℕ) (r : ℕ) → Filled (write_frame (commands o) (length entry)) entry exit r → 0 < r
    → commands p ≡ commands_of (take r exit) → commands p ≡ commands o
written_parsed o p entry exit r w h e = go (at_most_one o)
  where
    go : AtMostOne (commands o) → commands p ≡ commands o
    go (inl n) = absurd (omega (arith, w.length_is, ap (λ (cs : List Rule.Command). length (write_frame cs (length entry))) n, none_written (length entry)))
    go (inr d) =
        let g = ap (λ (cs : List Rule.Command). write_frame cs (length entry)) d.1 in
        let f = frame_written d.0 (length entry) (omega (arith, w.length_is, ap length g)) in
        e ∙ ap commands_of (front (write_frame (commands o) (length entry)) entry exit r w ∙ g ∙ f.1) ∙ one_to_one.frame_holds d.0 f.0 ∙ sym d.1

parsed_written : (b : List ℕ) (p : Option Command) (entry exit : List ℕ) (r : ℕ) → are_bytes b ≡ true → is_frame b ≡ true → 352 ≤ length entry
    → commands p ≡ commands_of b → Filled (write_frame (commands p) (length entry)) entry exit r → Filled b entry exit r
unfolding write_frame given command_frame
parsed_written b p entry exit r a h room e w =
    let k = carries b a h in
    let same : write_frame (commands p) (length entry) ≡ b = rw (e ∙ carried b a h, le-leb 352 (length entry) room, k.in_range) k.framed in
    rw same at w

-- `commands` of a command is that one
written_taken : (o : Option Command) (c : Command) (entry exit : List ℕ) (r : ℕ) → Filled (write_frame (commands o) (length entry)) entry exit r → 0 < r
    → to_command c ∷ [] ≡ commands_of (take r exit) → to_command c ∷ [] ≡ commands o
unfolding commands
written_taken o c entry exit r w h e = written_parsed o (Some c) entry exit r w h e

taken_written : (b : List ℕ) (c : Command) (entry exit : List ℕ) (r : ℕ) → are_bytes b ≡ true → is_frame b ≡ true → 352 ≤ length entry
    → to_command c ∷ [] ≡ commands_of b → Filled (write_frame (to_command c ∷ []) (length entry)) entry exit r → Filled b entry exit r
unfolding commands
taken_written b c entry exit r a h room e w = parsed_written b (Some c) entry exit r a h room e w

pub round_trip : RoundTrip
round_trip = record { accepted = accepted; written_parsed = written_parsed; parsed_written = parsed_written; written_taken = written_taken; taken_written = taken_written }
