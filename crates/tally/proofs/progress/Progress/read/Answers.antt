-- Whether something is read, and what is known of it. Assumes nothing.
use Rattle.std.proofs.Common.{arith, refl, rules, ap, ◌≡◌, ◌∙◌, Ok, Err, ◌<◌, length, false, true, ◌-◌}
use Rattle.tally.specs.ReadOn.{reads, fails, none}
use Rattle.tally.proofs.Laws.{none_given, read_last, read_long, read_stays, read_failed, read_some}
use Rattle.tally.proofs.progress.Progress.read.Given.{Over}
use Rattle.tally.proofs.progress.Progress.read.Goals.{After-read}
use Rattle.tally.proofs.progress.Progress.read.Goals as goal

pub returns-then-self-eq0-clause-read : goal.returns-then-self-eq0-clause-read
returns-then-self-eq0-clause-read g c = rw (c.stop.ensures.0) (none c.if-self-eq0.true)

-- in a read: there is room for a byte at least
room : (g : Over) (c : After-read g) → c.args.self.now.counts.left < length c.args.buf.now
room g c = search rules

pub returns-in-Err-clause-read : goal.returns-in-Err-clause-read
returns-in-Err-clause-read g c =
    rw (c.stop-in-Err.ensures.0)
    (fails {r = record { said = Err c.in-Err.field-0; n = 0; ended = false; failed = true }} (read_failed c.args.buf.now c.read.new.buf c.args.self.now.counts.left (room g (goal.at.returns-in-Err-clause-read g c).After-read) (search rules) c.in-Err.field-0) refl)

pub returns-in-Ok-clause-read : goal.returns-in-Ok-clause-read
returns-in-Ok-clause-read g c =
    rw (c.take-in-Ok.ensures, c.requires.1)
    (reads {r = record { said = Ok c.in-Ok.n; n = c.in-Ok.n; ended = false; failed = false }} refl c.requires.2 refl (omega (arith, c.if-self-eq0.false))
    (read_some c.args.buf.now c.read.new.buf c.args.self.now.counts.left (room g (goal.at.returns-in-Ok-clause-read g c).After-read) (search rules) (omega (arith, c.in-Ok.n-test.1)) c.in-Ok.ensures.bound.0 c.in-Ok.ensures.bytes.0) refl)

pub returns-in-Ok-eq0-clause-read : goal.returns-in-Ok-eq0-clause-read
returns-in-Ok-eq0-clause-read g c =
    let left = c.args.self.now.counts.left in
    let h = room g (goal.at.returns-in-Ok-eq0-clause-read g c).After-read in
    let m : length c.read.new.buf ≡ length c.args.buf.now - left = search rules in
    let said : c.read.result ≡ Ok 0 = c.in-Ok-eq0.is ∙ ap Ok c.in-Ok-eq0.field-0-test in
    rw (c.take.ensures, c.requires.1)
    (reads {r = record { said = c.read.result; n = c.end_line-end.result; ended = true; failed = false }} refl c.requires.2 refl (omega (arith, c.if-self-eq0.false))
    (read_last _ h (read_long c.args.buf.now c.read.new.buf left h m) (read_stays c.args.buf.now c.read.new.buf left h m) c.end_line-end.ensures.0 c.end_line-end.ensures.1 said
    (none_given _ _ c.read.new.buf c.read.ensures.bytes said (omega (arith, h, m)))) refl)
