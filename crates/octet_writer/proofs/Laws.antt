-- Pieces of writing, one behind the other. Assumes nothing.
use mathlib.Core.Path.{◌≡◌, ap, ◌∙◌, subst}
use mathlib.Core.List.{List, ◌++◌}
use Prim.Native.Nat.{ℕ, ◌≤◌}
use native.Mathlib.Omega.{arith}
use native.Mathlib.Nat.{zero-add}
use lib.ListN.{length, take, length-append}
use Rattle.octets.specs.Octets.{part, write}
use Rattle.octets.proofs.Places.{write_length, write_part, write_then}
use Rattle.octet_writer.specs.Written.{Written}

pub written_same : {l a b r : List ℕ} {i j : ℕ} → a ≡ b → Written l i a r j → Written l i b r j
written_same {l = l} {r = r} {i = i} {j = j} e w = subst (λ (t : List ℕ). Written l i t r j) e w

pub written_then : {l m r a b : List ℕ} {i j k : ℕ} → Written l i a m j → Written m j b r k → Written l i (a ++ b) r k
written_then {l = l} {a = a} {b = b} {i = i} {j = j} p q = record {
  bytes = q.bytes ∙ ap (λ (t : List ℕ). write t j b) p.bytes ∙ write_then l i a b j p.behind;
  behind = omega (arith, p.behind, q.behind, length-append a b);
}

-- a buffer's first bytes are what was written from its start on
pub written_front : {l bs r : List ℕ} {j : ℕ} → Written l 0 bs r j → j ≤ length r → take j r ≡ bs
unfolding part
written_front {l = l} {bs = bs} w h =
    rw (w.behind ∙ zero-add (length bs), w.bytes) (write_part l 0 bs (omega (arith, w.behind, ap length w.bytes, write_length l 0 bs)))
