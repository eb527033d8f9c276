-- The program's record, as contracts see it. Assumes nothing.
use Rattle.ledger.specs.declared.Ledger.TheInside.{Inside}
use Rattle.ledger.specs.View.{Ledger}

abbrev pub ledger_of : Inside → Ledger
ledger_of a = record { table = a.table; book = a.book }
