use Rattle.table.proofs.Found.{standing}
use Rattle.table.proofs.Table.find.Goals as goal

pub returns : goal.returns
returns c = rw (← c.self.view_is) (standing _ c.self.invariant c.args.code c.place.result c.place.ensures)
