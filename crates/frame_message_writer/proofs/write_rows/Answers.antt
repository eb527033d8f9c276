use mathlib.Core.Path.{sym, ◌∙◌}
use Rattle.rules.specs.Command.{is_count}
use Rattle.octet_writer.proofs.Laws.{written_then}
use Rattle.frame_code_writer.proofs.Fields.{nothing, message}
use Rattle.frame_message_writer.proofs.write_rows.Goals as goal

pub returns-then-not-is_ranged-clause-wrote : goal.returns-then-not-is_ranged-clause-wrote
unfolding is_count
returns-then-not-is_ranged-clause-wrote g c = rw (sym c.is_ranged.ensures.fits ∙ c.if-not-is_ranged.true) nothing

pub returns-clause-wrote : goal.returns-clause-wrote
unfolding is_count
returns-clause-wrote g c =
    rw (sym c.is_ranged.ensures.fits ∙ c.if-not-is_ranged.false)
    (message c.args.kind _ _ _ c.args.h.id _ c.put_header.ensures.wrote (written_then c.put.ensures.wrote c.put_rows.ensures.wrote))
