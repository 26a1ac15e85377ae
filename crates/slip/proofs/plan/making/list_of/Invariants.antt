use Rattle.std.proofs.Common.{◌≡◌, take}
use Rattle.lists.specs.Models.{list_of}
use Rattle.table.specs.Models.{table_of}
use Rattle.slip.specs.Plans.{with_numbers}
use Rattle.slip.proofs.plan.making.list_of.Given as goal

abbrev pub invariant-loop-number : goal.invariant-loop-number
invariant-loop-number l = list_of l.list ≡ with_numbers (table_of l.table) l.draft (take l.number-index l.number-items)
