use Rattle.std.proofs.Common.{length, sym, ap, ◌∙◌}
use Rattle.facts.specs.States.{nothing}
use Rattle.lists.specs.Models.{Listed, list_of}
use Rattle.slip.proofs.Plans.{good_empty}
use Rattle.slip.proofs.plan.Plan.empty.Goals as goal

pub invariant_of-result : goal.invariant_of-result
invariant_of-result c =
    let e = c.no_list.ensures.value in
    record { paired = ap length c.over.ensures.value ∙ sym (ap (λ (l : Listed). length l.jobs) e); good = ∣ good_empty (list_of c.no_list.result) 0 nothing e ∣₁ }
