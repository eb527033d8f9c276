use native.Mathlib.Omega.{arith}
use Rattle.command.proofs.Searches.{search_at, search_held}
use Rattle.command.proofs.search.Goals as goal

pub header_at-requires : goal.header_at-requires
header_at-requires c =
    omega (arith, (search_at c.args.b.now c.requires.0 c.requires.1).whole)

pub conditions_at-requires : goal.conditions_at-requires
conditions_at-requires c =
    let r = search_at c.args.b.now c.requires.0 c.requires.1 in
    (omega (arith, r.whole), omega (arith, r.short))

pub returns : goal.returns
returns c = search_held c.args.b.now c.requires.0 c.requires.1 _ c.header_at.ensures _ c.conditions_at.ensures.0 c.conditions_at.ensures.1
