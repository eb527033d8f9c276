use borrow.Author.Rules.{rules}
use native.Mathlib.Omega.{arith}
use Rattle.command.proofs.Messages.{query_rows, query_held}
use Rattle.command.proofs.query.Goals as goal

pub header_at-requires : goal.header_at-requires
header_at-requires c =
    omega (arith, (query_rows c.args.b.now c.requires.0 c.requires.1).whole)

pub rows_at-requires : goal.rows_at-requires
rows_at-requires c =
    let r = query_rows c.args.b.now c.requires.0 c.requires.1 in
    (omega arith, (omega (arith, r.most), omega arith, omega (arith, r.whole)))

pub returns : goal.returns
returns c = query_held c.args.b.now c.requires.0 _ c.header_at.ensures _ c.requires.1 (search rules) c.rows_at.ensures.0 c.rows_at.ensures.1
