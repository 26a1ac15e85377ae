use Rattle.std.proofs.Common.{sym, subst}
use Rattle.table.specs.Models.{table_of}
use Rattle.verdict.specs.Grammar.{AcceptsExactly}
use Rattle.verdict.proofs.Accepting.{accepts_exactly}
use Rattle.verdict.proofs.Good.{accepts_good}
use Rattle.verdict.proofs.Proper.{proper}
use Rattle.slip.proofs.checker.check.Goals as goal

pub returns : goal.returns
returns c =
    let t = table_of c.args.table.now in
    let s = c.args.slip.now in
    let is = c.accept.ensures.value in
    let known = proper c.args.table.now in
    record { value = is; bar = c.accept.ensures.bar; grammar = subst (AcceptsExactly t s) (sym is) (accepts_exactly t known s); good = accepts_good t known }
