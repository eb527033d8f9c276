use Rattle.std.proofs.Common.{◌≡◌, drop, ◌+ℤ◌}
use Rattle.rules.specs.Account as Rule
use Rattle.table.specs.Inside.{table_of}
use Rattle.table.specs.View.{accounts_of}
use Rattle.table.proofs.Table.total.Given as goal

-- the sum, with what the accounts from i on hold, is the whole
abbrev pub invariant-loop-i : goal.invariant-loop-i
invariant-loop-i l = l.sum +ℤ Rule.total Rule.held (drop l.i (accounts_of (table_of l.self-inside))) ≡ Rule.total Rule.held (accounts_of (table_of l.self-inside))
