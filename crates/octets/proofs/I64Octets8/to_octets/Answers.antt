use mathlib.Core.Path.{sym, ap, ◌∙◌}
use mir.Facts.{to_z-of_z}
use Rattle.octets.specs.Octets.{big_endian, twos, money}
use Rattle.octets.proofs.Numbers.{twos_is, fits_money}
use Rattle.octets.proofs.I64Octets8.to_octets.Goals as goal

pub returns : goal.returns
unfolding money
returns c =
    (c.to_octets.ensures.0 ∙ ap (big_endian 8) (c.cast_unsigned.ensures ∙ sym (twos_is _) ∙ ap twos (to_z-of_z c.ranges.self)), fits_money c.args.self c.ranges.self)
