-- Laws of the letters in a report: one of them, how long they are, their number before them, and one behind the other. Assumes nothing.
use mathlib.Core.Bool.{true, false, cond}
use mathlib.Core.List.{List, [], ◌∷◌, ◌++◌}
use Prim.Native.Nat.{ℕ, ◌≤◌}
use native.Mathlib.Omega.{arith}
use lib.ListN.{length, length-append}
use Rattle.rules.specs.Letters.{Letter, A, B, N, S, R, has, ascii, shown, letters_shown, letter_bytes}
use Rattle.octet_writer.specs.Written.{Written}
use Rattle.octet_writer.proofs.Laws.{written_then}

-- ---- lengths

shown_most : (x : Letter) (n : ℕ) → length (shown x n) ≤ 1
unfolding shown
shown_most x n = elim (has x n) as (λ b. length (cond b (ascii x ∷ []) []) ≤ 1) [ true ↦ omega arith | false ↦ omega arith ]

shown_all : (n : ℕ) → length (letters_shown n) ≤ 5
unfolding letters_shown
shown_all n =
    let r = shown R n in
    let s = shown S n ++ r in
    let m = shown N n ++ s in
    let b = shown B n ++ m in
    omega (
      arith,
      length-append (shown A n) b,
      length-append (shown B n) m,
      length-append (shown N n) s,
      length-append (shown S n) r,
      shown_most A n,
      shown_most B n,
      shown_most N n,
      shown_most S n,
      shown_most R n,
    )

-- 1 to 6 bytes
pub letters_most : (n : ℕ) → length (letter_bytes n) ≤ 6
unfolding letter_bytes
letters_most n = omega (arith, shown_all n)

-- ---- one behind the other

pub letters_written : {l₀ l₁ l₂ l₃ l₄ l₅ : List ℕ} {i₀ i₁ i₂ i₃ i₄ i₅ : ℕ} (n : ℕ) → Written l₀ i₀ (shown A n) l₁ i₁ → Written l₁ i₁ (shown B n) l₂ i₂
    → Written l₂ i₂ (shown N n) l₃ i₃ → Written l₃ i₃ (shown S n) l₄ i₄ → Written l₄ i₄ (shown R n) l₅ i₅ → Written l₀ i₀ (letters_shown n) l₅ i₅
unfolding letters_shown
letters_written n a b m s r = written_then a (written_then b (written_then m (written_then s r)))
