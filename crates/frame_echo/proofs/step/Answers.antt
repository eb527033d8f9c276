use mathlib.Core.Path.{ap}
use native.Mathlib.Omega.{arith}
use lib.ListN.{length}
use Rattle.frame_echo.proofs.Begun.{cut_most}
use Rattle.frame_echo.proofs.step.Goals as goal

pub echo-requires : goal.echo-requires
echo-requires c = omega (arith, ap length c.as_slice.ensures.value, ap length c.grow.ensures.kept, cut_most c.args.line.now.items c.args.piece.now, c.requires)
