use Rattle.std.proofs.Common.{◌≡◌, arith, false}
use Rattle.frame.specs.Frame.{is_frame}
use Rattle.command.proofs.ByKind.{frame_none}
use Rattle.ledger.proofs.Laws.{played_none}
use Rattle.play_frame.proofs.step.Goals as goal

pub returns-then-not-well_formed : goal.returns-then-not-well_formed
returns-then-not-well_formed c =
    let none : is_frame c.args.frame.now ≡ false = grind arith in
    rw (frame_none c.args.frame.now none) (played_none _ _ _ _ _)
