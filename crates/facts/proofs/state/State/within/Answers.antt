use Rattle.std.proofs.Common.{arith}
use Rattle.std.proofs.lemmas.Grind.{common_steps}
use Rattle.std.proofs.lemmas.Bool.Decides.{same_from_decides}
use Rattle.facts.specs.States.{within}
use Rattle.facts.proofs.Tests.{within_decides}
use Rattle.facts.proofs.state.State.within.Goals as goal

pub returns-clause-value : goal.returns-clause-value
returns-clause-value c =
    let s = c.args.self.now.marks in
    let n = c.args.count in
    same_from_decides _ (within n s) (grind (arith, common_steps)) (within_decides n s)
