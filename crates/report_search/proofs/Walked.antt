-- How far the walk over a set of accounts has come: some of the report is written, and the rest of the set gives the rest of it. Assumes nothing.
use mathlib.Core.Path.{◌≡◌, refl, sym, ap, ◌∙◌}
use mathlib.Core.Bool.{true, false, cond}
use mathlib.Core.List.{List, [], ◌∷◌, ◌++◌, append_assoc, append-nil}
use Prim.Native.Nat.{ℕ, ◌-◌, ◌/◌, ◌%◌, ◌^◌, ◌≤◌, ◌<◌}
use native.Mathlib.Omega.{arith}
use lib.Bits.{bit_and, and_le_l}
use lib.Count.{count_trailing_zeros}
use lib.Dec.{eqb}
use lib.ListN.{length, get_or, length-append}
use Rattle.octets.specs.Octets.{write}
use Rattle.rules.specs.Account as Rule
use Rattle.rules.specs.Search.{found_block, found_blocks}
use Rattle.search_set.specs.Sets.{chosen}
use Rattle.search_set.proofs.Laws.{chosen_next, chosen_none}
use Rattle.octet_writer.specs.Written.{Written}
use Rattle.octet_writer.proofs.Laws.{written_then}
use Rattle.report_search.proofs.Shown.{blocks_most}

chosen_most : {X : Type 0} (n : ℕ) (l : List X) → length (chosen n l) ≤ length l
unfolding chosen
chosen_most n [] = omega arith
chosen_most n (x ∷ l) =
    let i = chosen_most (n / 2) l in
    elim (eqb (n % 2) 1) as (λ b. length (cond b (x ∷ chosen (n / 2) l) (chosen (n / 2) l)) ≤ length (x ∷ l)) [ true ↦ omega (arith, i) | false ↦ omega (arith, i) ]

pub record Walked (s : ℕ) (xs : List Rule.Account) (set rest : ℕ) (l out : List ℕ) (at : ℕ) : Type 0 where
  pub done : List ℕ
  pub whole : found_blocks s xs (chosen set xs) ≡ done ++ found_blocks s xs (chosen rest xs)
  pub written : Written l 1 done out at
  pub below : rest < 2 ^ length xs

module _ (s : ℕ) (xs : List Rule.Account) (few : length xs ≤ 64) (set : ℕ) (l : List ℕ) where
  pub walked_none : set < 2 ^ length xs → Walked s xs set set l l 1
  unfolding write
  walked_none h = record { done = []; whole = refl; written = record { bytes = refl; behind = refl }; below = h }

  module _ (rest : ℕ) (out : List ℕ) (at : ℕ) (w : Walked s xs set rest l out at) where
    -- 1 byte and 64 times 57 bytes at most
    pub walked_room : at ≤ 3649
    walked_room =
        let d = w.done in
        let r = found_blocks s xs (chosen rest xs) in
        omega (arith, w.written.behind, ap length w.whole, length-append d r, blocks_most s xs (chosen set xs), chosen_most set xs)

    pub walked_more : (d : Rule.Account) (out' : List ℕ) (j : ℕ) → 0 < rest → Written out at (found_block s xs (get_or xs (count_trailing_zeros 64 rest) d)) out' j
        → Walked s xs set (bit_and rest (rest - 1)) l out' j
    unfolding found_blocks
    walked_more d out' j p q =
        let b = found_block s xs (get_or xs (count_trailing_zeros 64 rest) d) in
        let r = found_blocks s xs (chosen (bit_and rest (rest - 1)) xs) in
        record {
          done = w.done ++ b;
          whole = w.whole ∙ ap (λ (ys : List Rule.Account). w.done ++ found_blocks s xs ys) (chosen_next 64 rest xs d few p w.below) ∙ sym (append_assoc w.done b r);
          written = written_then w.written q;
          below = omega (arith, and_le_l rest (rest - 1), w.below);
        }

    pub walked_all : rest ≡ 0 → Written l 1 (found_blocks s xs (chosen set xs)) out at
    unfolding found_blocks
    walked_all z =
        let e : found_blocks s xs (chosen set xs) ≡ w.done = w.whole ∙ ap (λ (n : ℕ). w.done ++ found_blocks s xs (chosen n xs)) z ∙ ap (λ (ys : List Rule.Account). w.done ++ found_blocks s xs ys) (chosen_none xs) ∙ append-nil w.done in
        rw e w.written
