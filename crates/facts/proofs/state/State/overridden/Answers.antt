use Rattle.std.proofs.Common.{sym, subst, rules}
use Rattle.facts.specs.States.{over_one}
use Rattle.facts.specs.Words.{Overridden}
use Rattle.facts.proofs.Meanings.{overridden_means}
use Rattle.facts.proofs.state.State.overridden.Goals as goal

pub returns : goal.returns
returns c =
    let P = c.args.self.now.marks in
    let Q = c.args.effect.now.marks in
    let is = c.blended.ensures.value over_one (λ p q r h. search rules) in
    record { value = is; means = subst (Overridden P Q) (sym is) (overridden_means P Q) }
