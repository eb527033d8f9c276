-- A share is at most the whole. Assumes nothing.
use mathlib.Core.Bool.{true, false, cond}
use Prim.Native.Nat.{ℕ, ◌≤◌}
use native.Mathlib.Omega.{arith}
use Rattle.rules.specs.Account.{Account, is_bank}
use Rattle.payment_booking.specs.Share.{share}

pub share_most : (x : Account) (n : ℕ) → share x n ≤ n
unfolding share
share_most x n = elim (is_bank x) as (λ b. cond b 0 n ≤ n) [ true ↦ omega arith | false ↦ omega arith ]
