-- A turn goes on from what reads left, or it is over. Assumes nothing.
use Rattle.std.proofs.Common.{rules, ◌≡◌, ◌<◌, ◌∙◌, false, length, arith, subst, sym}
use Rattle.tally.specs.Progress.{progress_of, over, Served}
use Rattle.tally.proofs.Laws.{Standing, weight, from_fresh, same_book, same_buf, is_over, rests, turned}
use Rattle.tally.proofs.serve.Given.{Over}
use Rattle.tally.proofs.serve.Goals.{After-read_on}
use Rattle.tally.proofs.serve.Goals as goal

pub loop-buf-init : goal.loop-buf-init
loop-buf-init g c =
    same_book c.begin-p.result.ledger c.fresh.result c.begin-p.ensures.1 (from_fresh c.fresh.result _ _ c.fresh.ensures.0 c.fresh.ensures.1 c.begin-p.ensures.0)

pub read_on-requires : goal.read_on-requires
read_on-requires g c =
    let on : over c.loop-buf.p.stage ≡ false = sym c.loop-buf-test.ensures in
    let long : length c.loop-buf.buf ≡ 65536 = omega (arith, same_buf c.play.ensures.fed) in
    rests on (c.loop-buf.invariant.going on) long (search rules) c.play.ensures c.put.ensures.put

turn : (g : Over) (c : After-read_on g)
    → (weight (progress_of c.read_on.new.self) < weight (progress_of c.loop-buf.p))
    × Standing (g.R.Read.remaining c.args.input.now) (g.R.Read.remaining c.read_on.new.input) (g.W.Write.contents c.args.output.now) (g.W.Write.contents c.put.new.output) (progress_of c.read_on.new.self) c.read_on.new.self.ledger.book.ids c.read_on.new.self.ledger.book.days c.read_on.new.buf
turn g c =
    let on : over c.loop-buf.p.stage ≡ false = sym c.loop-buf-test.ensures in
    let long : length c.loop-buf.buf ≡ 65536 = omega (arith, same_buf c.play.ensures.fed) in
    let t = turned on (c.loop-buf.invariant.going on) long (search rules) c.play.ensures c.put.ensures.put c.read_on.ensures.read in
    (t.less, same_book c.read_on.new.self.ledger c.play.new.self.ledger (c.read_on.ensures.same ∙ c.put.ensures.same) t.stands)

pub loop-buf-smaller : goal.loop-buf-smaller
loop-buf-smaller g c = (turn g (goal.at.loop-buf-smaller g c).After-read_on).0

pub loop-buf-preserved : goal.loop-buf-preserved
loop-buf-preserved g c = (turn g (goal.at.loop-buf-preserved g c).After-read_on).1

pub returns-clause-served : goal.returns-clause-served
returns-clause-served g c = subst Served (sym c.finish.ensures) (is_over (c.loop-buf.invariant.stopped (sym c.loop-buf-test.ensures))).why
