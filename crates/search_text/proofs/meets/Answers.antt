-- Equal asks what contains does, and lacks the contrary. Assumes nothing.
use mathlib.Core.Path.{sym, ◌∙◌}
use borrow.Author.Tests.{eq-eqb, ne_eqb}
use Rattle.rules.proofs.Selection.{meets_turned}
use Rattle.search_text.proofs.meets.Goals as goal

pub returns-then-mode-eq3 : goal.returns-then-mode-eq3
returns-then-mode-eq3 c =
    sym
    (meets_turned c.args.id.now c.args.text.now c.args.mode c.requires.0 c.requires.1
    ∙ rw (eq-eqb c.args.mode 3 c.if-mode-eq3.true, ← c.contains-stands.ensures))

pub returns-else-mode-eq3 : goal.returns-else-mode-eq3
returns-else-mode-eq3 c =
    sym
    (meets_turned c.args.id.now c.args.text.now c.args.mode c.requires.0 c.requires.1
    ∙ rw (ne_eqb c.args.mode 3 c.if-mode-eq3.false, ← c.contains-stands.ensures))
