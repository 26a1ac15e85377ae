use Rattle.std.proofs.Common.{sym, subst, rules}
use Rattle.facts.specs.States.{missing_one}
use Rattle.facts.specs.Words.{Missing}
use Rattle.facts.proofs.Meanings.{missing_means}
use Rattle.facts.proofs.state.State.missing.Goals as goal

pub returns : goal.returns
returns c =
    let P = c.args.self.now.marks in
    let Q = c.args.wanted.now.marks in
    let is = c.blended.ensures.value missing_one (λ p q r h. search rules) in
    record { value = is; means = subst (Missing P Q) (sym is) (missing_means P Q) }
