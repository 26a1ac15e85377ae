use Rattle.std.proofs.Common.{refl, rules}
use Rattle.std.proofs.lemmas.Bool.Decides.{Decides-at}
use Rattle.facts.specs.States.{covers_one}
use Rattle.facts.proofs.Scans.{every_is}
use Rattle.facts.proofs.Tests.{covers_decides}
use Rattle.facts.proofs.state.State.covers.Goals as goal

pub returns : goal.returns
returns c =
    let P = c.args.self.now in
    let Q = c.args.other.now in
    let is = every_is covers_one refl P.marks Q.marks P.size Q.size c.all_pass.result (c.all_pass.ensures.facts covers_one (λ p q r h. search rules)) in
    record { value = is; means = Decides-at _ _ is (covers_decides P.marks Q.marks) }
