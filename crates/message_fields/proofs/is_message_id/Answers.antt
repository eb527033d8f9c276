use native.Mathlib.Omega.{arith}
use mathlib.Core.Path.{sym}
use Rattle.message_fields.proofs.Laws.{message_id_is, no_message_id}
use Rattle.message_fields.proofs.is_message_id.Goals as goal

pub returns-then-id-ne32 : goal.returns-then-id-ne32
returns-then-id-ne32 c = sym (no_message_id c.args.id.now (λ e. omega (arith, c.if-id-ne32.true)))

pub returns-then-are_digits : goal.returns-then-are_digits
returns-then-are_digits c =
    rw (message_id_is c.args.id.now (omega (arith, c.if-id-ne32.false)), ← c.are_digits.ensures, c.if-are_digits.true)

pub returns-else-are_digits : goal.returns-else-are_digits
returns-else-are_digits c =
    rw (message_id_is c.args.id.now (omega (arith, c.if-id-ne32.false)), ← c.are_digits.ensures, c.if-are_digits.false)
