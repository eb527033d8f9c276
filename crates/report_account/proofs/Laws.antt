-- Laws of the block of an account: its length, and its parts one after the other. Assumes nothing.
use mathlib.Core.Path.{◌≡◌}
use native.Mathlib.Omega.{arith}
use lib.ListN.{length, length-append}
use Rattle.rules.specs.Account.{Account, state}
use Rattle.rules.specs.Report.{status_bytes, ltk_status, lpo_status, account_block}
use Rattle.report_limit.proofs.Laws.{length_status}

pub length_account : (x : Account) → length (account_block x) ≡ 57
unfolding account_block
length_account x =
    let l = status_bytes (ltk_status x.ltk (state x)) in
    let p = status_bytes (lpo_status x.lpo x.turnovers.icdt) in
    omega (arith, length-append l p, length_status (ltk_status x.ltk (state x)), length_status (lpo_status x.lpo x.turnovers.icdt))
