use mathlib.Core.Path.{sym, ap, ◌∙◌}
use Rattle.amount.proofs.Integer.{back}
use Rattle.octets.specs.Octets.{signed}
use Rattle.octets.proofs.Numbers.{signed_is}
use Rattle.octets.proofs.I64Octets8.of_octets.Goals as goal

pub returns : goal.returns
returns c =
    back c.cast_signed.result c.cast_signed.type_inv ∙ c.cast_signed.ensures ∙ sym (signed_is c.of_octets.result) ∙ ap signed c.of_octets.ensures
