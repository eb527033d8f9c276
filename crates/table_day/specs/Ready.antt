-- What a new day asks of an account. Assumes nothing.
use Rattle.std.specs.Prelude.{T}
use Rattle.rules.specs.Account.{Account}
use Rattle.rules.specs.Invariant.{Sized, limit_ok}

abbrev pub Ready : Account → Type 0
Ready x = Sized x × T (limit_ok x.ltk) × T (limit_ok x.lpo)
