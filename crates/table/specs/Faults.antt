-- The number, line and field of each fault of a table.
use Rattle.std.specs.Prelude.{ℕ}
use Rattle.text.specs.Faults.{at_place, refusal_of}
use Rattle.table.specs.declared.fault.TableFault.{TableFault}
use Rattle.table.specs.declared.fault.TableFault.TheVariants.{Text, WrongTag, WrongFields, NameUsed, TooManyLines, OutOfOrder}

abbrev pub refusal_of_table : TableFault → ℕ × ℕ × ℕ
refusal_of_table (Text e) = refusal_of e
refusal_of_table (WrongTag line) = (4, line, 1)
refusal_of_table (WrongFields line) = (5, line, 1)
refusal_of_table (NameUsed p) = at_place 10 p
refusal_of_table (TooManyLines line) = (11, line, 1)
refusal_of_table (OutOfOrder line) = (12, line, 1)
