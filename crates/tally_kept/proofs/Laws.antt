-- Laws of the cut. Assumes nothing.
use mathlib.Core.Path.{◌≡◌, refl, sym, ◌∙◌}
use mathlib.Core.Bool.{Bool, true, false, cond}
use mathlib.Core.List.{List, [], ◌∷◌}
use Prim.Native.Nat.{ℕ, zero, suc, ◌≤◌, min}
use native.Mathlib.Omega.{arith}
use lib.Dec.{eqb}
use lib.ListN.{length, take}
use lib.Seq.{take-take, length-take-le}
use Rattle.std.proofs.lemmas.List.{take_min}
use Rattle.tally_kept.specs.Kept.{cut_length, kept_length, last_end}

-- the first 1,024 of n bytes
pub cut_take : (n : ℕ) (l : List ℕ) → n ≤ length l → take (cut_length n) l ≡ take 1024 (take n l)
cut_take n l h =
    let e : cut_length n ≡ min 1024 (length (take n l)) = omega (arith, length-take-le n l h) in
    let f : take (cut_length n) (take n l) ≡ take (cut_length n) l = take-take (cut_length n) n l (omega arith) in
    sym f ∙ rw e (take_min 1024 (take n l))

pub kept_most : (from n : ℕ) → kept_length from n ≤ n
unfolding kept_length
kept_most from n = go (eqb from 0)
  where
    go : (q : Bool) → cond q (cut_length n) n ≤ n
    go true = omega arith
    go false = omega arith

pub last_one : (kept : ℕ) → ¬ (kept ≡ 0) → last_end kept ≡ 10 ∷ []
unfolding last_end
last_one zero h = absurd (h refl)
last_one (suc n) h = refl
