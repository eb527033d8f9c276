use mathlib.Core.Path.{◌∙◌}
use native.Mathlib.Omega.{arith}
use lib.ListN.{length}
use Rattle.frame.proofs.Layouts.{filled_none}
use Rattle.frame_reader.proofs.Reader.{no_room, roomy}
use Rattle.frame_reader.proofs.nomiluvar_read_frame.Goals as goal

pub returns-then-frame-lt352 : goal.returns-then-frame-lt352
returns-then-frame-lt352 c = filled_none _ c.args.frame.now (no_room c.args.line.now _ (omega arith))

pub returns-in_default : goal.returns-in_default
returns-in_default c = filled_none _ c.args.frame.now (roomy c.args.line.now _ (omega arith) ∙ c.in_default.ensures.frame)

pub returns : goal.returns
returns c =
    let f = c.in-Some.ensures.frame.1 in
    let e = roomy c.args.line.now (length c.args.frame.now) (omega arith) in
    rw e (record { length_is = f.length_is; bytes_are = rw (c.copy_from_slice.ensures.after, f.frame_is, f.length_is) })
