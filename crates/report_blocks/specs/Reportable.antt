-- What the writing of a report's blocks asks. Assumes nothing.
use Rattle.std.specs.Prelude.{T}
use Rattle.rules.specs.Account.{Account}
use Rattle.rules.specs.Invariant.{Sized, limit_ok}

-- an account whose numbers fit a block
pub record Reportable (x : Account) : Type 0 where
  pub sized : Sized x
  pub ltk_ok : T (limit_ok x.ltk)
  pub lpo_ok : T (limit_ok x.lpo)
