use Rattle.std.proofs.Common.{sym}
use Rattle.filled.specs.Items.{items_of}
use Rattle.facts.specs.Models.{row}
use Rattle.table.specs.Models.{table_of}
use Rattle.verdict.proofs.Good.{accepted_facts}
use Rattle.verdict.proofs.Proper.{proper}
use Rattle.slip.proofs.checker.accept.Goals as goal

pub of-requires : goal.of-requires
of-requires c =
    let d = c.in_ok-draft.draft in
    accepted_facts (table_of c.args.table.now) (proper c.args.table.now) c.args.slip.now (row d.opening) (row d.goal) (items_of d.numbers) (sym c.in_ok-draft.ensures.value)
