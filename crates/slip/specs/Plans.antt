-- What stands in the code's plans.
use Rattle.std.specs.Prelude.{ℕ, Bool, false, ◌||◌, ◌⊎◌, List, [], ◌∷◌, map, length}
use Rattle.filled.specs.Items.{items_of}
use Rattle.facts.specs.States.{mark, named, Named, nothing}
use Rattle.facts.specs.Worlds.{Job}
use Rattle.facts.specs.Models.{row}
use Rattle.lists.specs.Models.{Listed, list_of}
use Rattle.table.specs.Tables.{Table}
use Rattle.table.specs.Jobs.{job_at}
use Rattle.verdict.specs.Verdicts.{Plan}
use Rattle.lists.specs.declared.draft.Draft.{Draft}
use Rattle.slip.specs.declared.plan.Plan as code

-- the list of a draft's states and the jobs of these numbers
abbrev pub with_numbers : Table → Draft → List ℕ → Listed
with_numbers t d ks = record { facts = length t.facts; opening = row d.opening; goal = row d.goal; jobs = map (job_at t) ks }

-- the list of a draft
abbrev pub draft_list : Table → Draft → Listed
draft_list t d = with_numbers t d (items_of d.numbers)

abbrev pub plan_of : code.Plan → Plan
plan_of p = record { facts = (list_of p.list).facts; opening = (list_of p.list).opening; goal = (list_of p.list).goal; jobs = (list_of p.list).jobs; numbers = items_of p.numbers }

-- the plan of no jobs and empty states over no facts
abbrev pub no_plan : Plan
no_plan = record { facts = 0; opening = nothing; goal = nothing; jobs = []; numbers = [] }

-- whether a job names fact i, in its precondition or its effect
abbrev pub job_names : Job → ℕ → Bool
job_names j i = named (mark j.precondition i) || named (mark j.effect i)

abbrev pub jobs_name : List Job → ℕ → Bool
jobs_name [] i = false
jobs_name (j ∷ L) i = job_names j i || jobs_name L i

-- the footprint: whether the plan names fact i
abbrev pub footprint : Plan → ℕ → Bool
footprint p i = named (mark p.opening i) || (named (mark p.goal i) || jobs_name p.jobs i)

-- a job of the list names fact i
abbrev pub JobNames : List Job → ℕ → Type 0
JobNames [] i = ⊥
JobNames (j ∷ L) i = Named j.precondition i ⊎ (Named j.effect i ⊎ JobNames L i)

-- fact i is one of the opening, of the goal, or of a job
abbrev pub Footprint : Plan → ℕ → Type 0
Footprint p i = Named p.opening i ⊎ (Named p.goal i ⊎ JobNames p.jobs i)
