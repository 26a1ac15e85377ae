use Rattle.std.proofs.Common.{sym, ◌∙◌, arith}
use Rattle.std.proofs.lemmas.Bool.Decides.{Decides-at}
use Rattle.facts.specs.States.{same_one}
use Rattle.facts.proofs.Scans.{pointwise_is}
use Rattle.facts.proofs.Tests.{same_decides}
use Rattle.facts.proofs.state.State.same.Goals as goal

pub returns : goal.returns
returns c =
    let P = c.args.self.now in
    let Q = c.args.other.now in
    let long = P.size ∙ sym Q.size in
    let is = c.eq.ensures ∙ pointwise_is same_one _ (λ p q. grind arith) P.marks Q.marks long in
    record { value = is; means = Decides-at _ _ is (same_decides P.marks Q.marks long) }
