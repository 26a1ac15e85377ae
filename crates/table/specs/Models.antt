-- What stands in the code's table.
use Rattle.table.specs.declared.table.Table as code
use Rattle.table.specs.Rows.{titles, rows_of}
use Rattle.table.specs.Tables.{Table}
use Rattle.filled.specs.Items.{items_of}

abbrev pub table_of : code.Table → Table
table_of t = record { facts = titles (items_of t.facts); jobs = rows_of (items_of t.jobs) }
