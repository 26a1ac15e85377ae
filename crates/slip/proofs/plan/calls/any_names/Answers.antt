use Rattle.std.proofs.Common.{◌∙◌, rules}
use Rattle.std.proofs.lemmas.Iterator.{YieldsList-from_slice}
use Rattle.std.proofs.lemmas.Iterator.Search.{any_from_yields_List}
use Rattle.facts.specs.declared.job.Job.{Job}
use Rattle.facts.specs.Models.{job_of}
use Rattle.slip.specs.Plans.{job_names}
use Rattle.slip.proofs.Plans.{any_named}
use Rattle.slip.proofs.plan.calls.any_names.Goals as goal

pub returns : goal.returns
returns c =
    let i = c.args.fact in
    let any = any_from_yields_List (λ (j : Job). job_names (job_of j) i) _ _ _ c.any.ensures.ran (YieldsList-from_slice c.args.jobs.now cc) (λ x b q k. search rules) in
    record { value = any ∙ any_named c.args.jobs.now i }
