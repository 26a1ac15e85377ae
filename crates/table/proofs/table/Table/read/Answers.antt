use Rattle.std.proofs.Common.{sym, subst}
use Rattle.table.specs.Grammar.{ReadExactly}
use Rattle.table.proofs.Writing.{read_exactly}
use Rattle.table.proofs.table.Table.read.Goals as goal

pub returns : goal.returns
returns c =
    let s = c.args.text.now in
    let is = c.parse.ensures.value in
    record { value = is; grammar = subst (ReadExactly s) (sym is) (read_exactly s) }
