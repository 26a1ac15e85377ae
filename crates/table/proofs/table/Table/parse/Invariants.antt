use Rattle.std.proofs.Common.{◌≡◌}
use Rattle.text.specs.Lines.{lines}
use Rattle.table.specs.Tables.{no_rows, table_lines}
use Rattle.table.specs.Models.{table_of}
use Rattle.table.proofs.table.Table.parse.Given as goal

abbrev pub invariant-loop-line : goal.invariant-loop-line
invariant-loop-line l =
    table_lines (table_of l.table) l.line-iterator.number (lines l.line-iterator.rest) ≡ table_lines no_rows 1 (lines l.text)
