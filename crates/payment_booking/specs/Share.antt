-- The share of a payment that a party's own account gets. Assumes nothing.
use Rattle.std.specs.Prelude.{cond, ℕ}
use Rattle.rules.specs.Account.{Account, is_bank}

-- what a payment of n adds to a party's own account once its bank's has its part: nothing to a bank
unfoldable pub share : Account → ℕ → ℕ
share x n = cond (is_bank x) 0 n
