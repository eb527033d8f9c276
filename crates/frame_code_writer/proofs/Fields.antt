-- Pieces of a frame one behind another, and what a writer leaves that refuses or writes a command. Assumes nothing.
use mathlib.Core.Path.{◌≡◌, refl, sym, ap, ◌∙◌}
use mathlib.Core.Bool.{true, false, cond}
use mathlib.Core.List.{List, [], ◌∷◌, ◌++◌, append_assoc, append-nil}
use Prim.Native.Nat.{ℕ, ◌%◌, ◌<◌, ◌≤◌}
use native.Mathlib.Omega.{arith}
use native.Mathlib.Nat.{zero-add}
use lib.ListN.{length, drop}
use lib.Dec.{leb}
use borrow.Author.Tests.{le-leb, lt-leb}
use Rattle.octets.specs.Octets.{big_endian, write}
use Rattle.octets.proofs.Places.{write_is}
use Rattle.octet_writer.specs.Written.{Written}
use Rattle.octet_writer.proofs.Laws.{written_same, written_then}
use Rattle.rules.specs.Command.{Command, well_formed}
use Rattle.rules.specs.Message.{digits}
use Rattle.frame.specs.Frame.{frame_of, given, command_frame, write_frame}
use Rattle.frame.specs.Filled.{Filled}
use Rattle.frame.proofs.Layouts.{filled_none}

-- ---- one piece behind another

pub nothing : {l : List ℕ} {i : ℕ} → Written l i [] l i
unfolding write
nothing = record { bytes = refl; behind = omega arith }

-- nothing behind a
pub lastly : {l a r : List ℕ} {i j : ℕ} → Written l i a r j → Written l i (a ++ []) r j
lastly {a = a} w = written_same (sym (append-nil a)) w

-- a byte as a number of one
pub byte_one : (x : ℕ) → x < 256 → x ∷ [] ≡ big_endian 1 x
unfolding big_endian
byte_one x h = let e : x ≡ x % 256 = omega arith in ap (λ (n : ℕ). n ∷ []) e

-- what stands behind the kind and the header
pub message : {l m r : List ℕ} {i j k : ℕ} (kind sender day second : ℕ) (id bs : List ℕ)
    → Written l i (kind ∷ (digits 6 sender ++ (id ++ (big_endian 4 day ++ big_endian 4 second)))) m j → Written m j bs r k
    → Written l i (kind ∷ (digits 6 sender ++ (id ++ (big_endian 4 day ++ (big_endian 4 second ++ bs))))) r k
message kind sender day second id bs p q = written_same (simp append_assoc) (written_then p q)

-- ---- a command

module _ (c : Command) {l : List ℕ} {i : ℕ} where
  pub refused : well_formed c ≡ false → Written l i (command_frame (c ∷ [])) l i
  unfolding command_frame
  refused e = rw e nothing

  pub written : {r : List ℕ} {j : ℕ} → well_formed c ≡ true → Written l i (frame_of c) r j → Written l i (command_frame (c ∷ [])) r j
  unfolding command_frame
  written e w = rw e w

-- ---- the buffer, with room and without

pub filled : (cs : List Command) (f : List ℕ) {g : List ℕ} {r : ℕ} → 352 ≤ length f → r ≤ 352 → Written f 0 (command_frame cs) g r → Filled (write_frame cs (length f)) f g r
unfolding write_frame given
filled cs f room h w =
    rw (le-leb 352 (length f) room)
    (record {
      length_is = omega (arith, w.behind);
      bytes_are =
          w.bytes
          ∙ write_is f 0 (command_frame cs) (omega (arith, w.behind))
          ∙ ap (λ (k : ℕ). command_frame cs ++ drop k f) (zero-add (length (command_frame cs)));
    })

pub without_room : (cs : List Command) (f : List ℕ) → length f < 352 → Filled (write_frame cs (length f)) f f 0
unfolding write_frame given
without_room cs f h = filled_none (cond (leb 352 (length f)) (command_frame cs) []) f (rw (lt-leb 352 (length f) h))
