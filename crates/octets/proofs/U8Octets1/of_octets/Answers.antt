use Rattle.std.proofs.Common.{rules}
use mathlib.Core.Path.{◌≡◌, sym, ap, ◌∙◌}
use lib.ListN.{length}
use native.Mathlib.Omega.{arith}
use Rattle.octets.specs.Octets.{number}
use Rattle.octets.proofs.Places.{number_one, part_whole}
use Rattle.octets.proofs.U8Octets1.of_octets.Goals as goal

pub returns : goal.returns
returns c =
    let e : length c.args.octets.now ≡ 1 = search rules in
    sym (number_one 0 c.args.octets.now (omega arith)) ∙ ap number (part_whole 1 c.args.octets.now e)
