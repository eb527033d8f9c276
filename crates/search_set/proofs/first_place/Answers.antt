use native.Mathlib.Omega.{arith}
use lib.Count.{trailing_le}
use Rattle.search_set.proofs.first_place.Goals as goal

pub overflow_cast-result : goal.overflow_cast-result
overflow_cast-result c = omega (arith, trailing_le 64 c.args.set)
