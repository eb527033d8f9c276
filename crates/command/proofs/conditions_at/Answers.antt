use mathlib.Core.Path.{◌∙◌}
use native.Mathlib.Omega.{arith}
use lib.ListN.{length-drop, length-take}
use lib.Seq.{take_at, take_all}
use Rattle.octets.specs.Octets.{part}
use Rattle.command.proofs.conditions_at.Goals as goal

pub returns : goal.returns
unfolding part
returns c =
    let e = c.copy_from_slice.ensures in
    (c.from.ensures, take_at _ _ _ (e.len ∙ simp (length-take, length-drop) (omega arith)) ∙ e.after ∙ take_all _ _ (simp length-drop (omega arith)))
