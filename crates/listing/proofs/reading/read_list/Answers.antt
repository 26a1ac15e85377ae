use Rattle.std.proofs.Common.{sym, subst}
use Rattle.table.specs.Models.{table_of}
use Rattle.listing.specs.Grammar.{ListsExactly}
use Rattle.listing.proofs.Complete.{lists_exactly}
use Rattle.verdict.proofs.Proper.{proper}
use Rattle.listing.proofs.reading.read_list.Goals as goal

pub returns-clause-grammar : goal.returns-clause-grammar
returns-clause-grammar c =
    let t = table_of c.args.table.now in
    subst (ListsExactly t c.args.text.now) (sym c.parse.ensures.value) (lists_exactly t (proper c.args.table.now) c.args.text.now)
