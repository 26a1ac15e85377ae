use Rattle.std.proofs.Common.{arith}
use Rattle.std.proofs.lemmas.Grind.{common_steps}
use Rattle.facts.specs.States.{lowest}
use Rattle.facts.proofs.Tests.{lowest_is, lowest_only}
use Rattle.facts.proofs.state.State.lowest.Goals as goal

pub returns-clause-value : goal.returns-clause-value
returns-clause-value c =
    let s = c.args.self.now.marks in
    lowest_only s _ (lowest s) (grind (arith, common_steps)) (lowest_is s)
