use mathlib.Core.Path.{◌≡◌, refl}
use borrow.Author.Rules.{rules}
use native.Mathlib.Omega.{arith}
use lib.ListN.{length}
use Rattle.octets.specs.Octets.{write}
use Rattle.frame_echo.proofs.Begun.{last_none, last_some}
use Rattle.frame_echo.proofs.finish.Goals as goal

pub returns-then-is_empty : goal.returns-then-is_empty
unfolding write
returns-then-is_empty c =
    let z : length c.args.line.now ≡ 0 = grind arith in
    let e = last_none c.args.line.now z in
    (rw e refl, rw e refl)

pub returns : goal.returns
returns c =
    let e = last_some c.args.line.now (λ z. grind arith) in
    let w = rw (c.new-w.ensures.1, c.new-w.ensures.2) at c.echo.ensures.wrote in
    rw e (search rules)
