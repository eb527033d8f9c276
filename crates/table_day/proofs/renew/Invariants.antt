-- The first i accounts have had their new day, the others stand as they were. Assumes nothing.
use Rattle.std.proofs.Common.{◌≡◌, map}
use Rattle.rules.specs.Day.{new_day}
use Rattle.account.specs.View.{to_account}
use Rattle.table_day.proofs.Days.{mapped}
use Rattle.table_day.proofs.renew.Given as goal

abbrev pub invariant-loop-x : goal.invariant-loop-x
invariant-loop-x l = map to_account l.x-items ≡ mapped new_day l.x-index (map to_account l.fn.accounts)
