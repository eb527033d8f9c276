use mathlib.Core.Path.{refl}
use lib.Count.{ones-le}
use native.Mathlib.Omega.{arith}
use Rattle.search_set.proofs.size.Goals as goal

pub overflow_cast-result : goal.overflow_cast-result
overflow_cast-result c = omega (arith, ones-le 64 c.args.set c.ranges.set.fits)

pub returns : goal.returns
returns c = (refl, ones-le 64 c.args.set c.ranges.set.fits)
