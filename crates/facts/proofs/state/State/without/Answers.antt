use Rattle.std.proofs.Common.{sym, subst, rules}
use Rattle.facts.specs.States.{less_one}
use Rattle.facts.specs.Words.{Without}
use Rattle.facts.proofs.Meanings.{without_means}
use Rattle.facts.proofs.state.State.without.Goals as goal

pub returns : goal.returns
returns c =
    let P = c.args.self.now.marks in
    let Q = c.args.other.now.marks in
    let is = c.blended.ensures.value less_one (λ p q r h. search rules) in
    record { value = is; means = subst (Without P Q) (sym is) (without_means P Q) }
