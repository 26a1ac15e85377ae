use Rattle.std.proofs.Common.{Bool, Decides, sym, subst}
use Rattle.slip.specs.Plans.{plan_of, Footprint}
use Rattle.slip.proofs.Plans.{footprint_decides}
use Rattle.slip.proofs.plan.Plan.names.Goals as goal

pub returns : goal.returns
returns c =
    let p = plan_of c.args.self.now in
    let i = c.args.fact in
    let is = c.names_fact.ensures.value in
    record { value = is; means = subst (λ (b : Bool). Decides b (Footprint p i)) (sym is) (footprint_decides p i) }
