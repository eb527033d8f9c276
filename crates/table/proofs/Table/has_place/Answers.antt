use Rattle.std.proofs.Common.{sym, ap}
use lib.Dec.{ltb}
use Rattle.rules.specs.Machine.{has_place}
use Rattle.table.specs.View.{machine_of}
use Rattle.table.proofs.Places.{accounts_length}
use Rattle.table.proofs.Table.has_place.Goals as goal

pub returns-clause-says : goal.returns-clause-says
unfolding machine_of has_place
returns-clause-says c = rw (← c.self.view_is) (ap (λ n. ltb n 64) (sym (accounts_length _ c.self.invariant.good.own.within c.self.invariant.long)))
