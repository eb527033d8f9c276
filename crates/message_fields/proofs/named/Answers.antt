use Rattle.message_fields.proofs.Laws.{named_is, begins_is}
use Rattle.message_fields.proofs.named.Goals.{else-starts_with-via-then-starts_with+else-are_digits, else-starts_with-via-else-starts_with}
use Rattle.message_fields.proofs.named.Goals as goal

pub returns-then-are_digits : goal.returns-then-are_digits
returns-then-are_digits c =
    rw (
      named_is c.args.id.now c.requires,
      ← begins_is c.args.id.now,
      ← c.starts_with.ensures.value,
      ← c.are_digits.ensures,
      c.if-starts_with.true,
      c.if-are_digits.true,
    )
    c.code_at.ensures

pub returns-else-starts_with : goal.returns-else-starts_with
returns-else-starts_with c =
    rw (
      named_is c.args.id.now c.requires,
      ← begins_is c.args.id.now,
      ← c.starts_with.ensures.value,
    )
    (elim c.else-starts_with.branch [
      | else-starts_with-via-then-starts_with+else-are_digits w ↦ rw (w.if-starts_with.true, ← w.are_digits.ensures, w.if-are_digits.false)
      | else-starts_with-via-else-starts_with w ↦ rw w.if-starts_with.false
    ])
