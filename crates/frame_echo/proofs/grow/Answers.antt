use mathlib.Core.Path.{◌∙◌}
use native.Mathlib.Omega.{arith}
use lib.ListN.{length-take}
use Rattle.frame_echo.proofs.Begun.{grown_by}
use Rattle.frame_echo.proofs.Whole.{on_ok}
use Rattle.frame_echo.proofs.grow.Goals as goal

pub returns-clause-kept : goal.returns-clause-kept
returns-clause-kept c =
    let n = length-take c.min-n.result c.args.piece.now in
    let is = c.try_extend_from_slice.ensures.variant.1 (omega (arith, n, c.min-n.ensures, c.remaining_capacity.ensures)) in
    on_ok c.try_extend_from_slice.result is c.try_extend_from_slice.ensures.ok
    ∙ grown_by c.args.line.now.items c.args.piece.now c.remaining_capacity.result c.min-n.result c.remaining_capacity.ensures (omega arith)
