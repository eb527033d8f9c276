use mathlib.Core.Path.{sym, ap, ◌∙◌}
use native.Mathlib.Omega.{arith}
use Rattle.frame.specs.Frame.{commands_of}
use Rattle.frame.proofs.Layouts.{filled_some}
use Rattle.frame_echo.proofs.Laws.{read_most, read_front, rewritten}
use Rattle.frame_echo.proofs.rewrite.Goals as goal

pub slice_bounds-read-end : goal.slice_bounds-read-end
slice_bounds-read-end c =
    omega (arith, c.nomiluvar_read_frame-n.ensures.length_is, read_most c.args.line.now 352)

pub returns : goal.returns
returns c =
    let o = c.parse.ensures ∙ ap commands_of (read_front c.args.line.now _ _ _ c.nomiluvar_read_frame-n.ensures) in
    filled_some _ _ _ _ _ (sym (rewritten c.args.line.now _ _ o)) c.write_frame.ensures
