use Rattle.std.proofs.Common.{◌≡◌, Bool, true, false, not, refl, ap, ◌∙◌, rules}
use Rattle.std.proofs.lemmas.Bool.Decides.{Decides-at}
use Rattle.facts.specs.States.{apart_one}
use Rattle.facts.proofs.Scans.{every_is}
use Rattle.facts.proofs.Tests.{apart_decides}
use Rattle.facts.proofs.state.State.shares.Goals as goal

not_not : (b : Bool) → not (not b) ≡ b
not_not true = refl
not_not false = refl

pub returns : goal.returns
returns c =
    let P = c.args.self.now in
    let Q = c.args.other.now in
    let is = every_is apart_one refl P.marks Q.marks P.size Q.size c.all_pass.result (c.all_pass.ensures.facts apart_one (λ p q r h. search rules)) in
    record { value = ap not is; means = Decides-at _ _ (not_not _ ∙ is) (apart_decides P.marks Q.marks) }
