use mathlib.Core.Path.{◌≡◌, refl, ap, ◌∙◌}
use native.Mathlib.Omega.{arith}
use Prim.Native.Nat.{◌+◌, ◌-◌}
use Rattle.octets.specs.Octets.{part}
use Rattle.octets.proofs.read.Goals as goal

pub returns : goal.returns
unfolding part
returns g c =
    let e : c.args.at + g.row.N - c.args.at ≡ g.row.N = omega arith in
    c.of_octets.ensures ∙ ap g.T.Octets.of_bytes (c.copy_from_slice.ensures.after ∙ rw e refl)
