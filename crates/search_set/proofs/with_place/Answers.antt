use Rattle.search_set.proofs.Laws.{set_place}
use Rattle.search_set.proofs.with_place.Goals as goal

pub returns : goal.returns
returns c = set_place c.args.set c.args.i c.requires.0 c.requires.1
