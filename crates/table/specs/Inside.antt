-- The program's table, as contracts see it. Assumes nothing.
use Rattle.table.specs.declared.Table.TheInside.{Inside}
use Rattle.table.specs.View.{Table}

abbrev pub table_of : Inside → Table
table_of a = record { codes = a.codes; accounts = a.accounts; count = a.count; day = a.day }
