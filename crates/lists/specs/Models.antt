-- What stands in the code's lists, and what each call on one gives.
use Rattle.std.specs.Prelude.{◌≡◌, ℕ, cond, ◌&&◌, List, [], ◌∷◌, ◌++◌, length, Ok, Err, Option, Result, nat_le, nat_lt}
use Rattle.filled.specs.Items.{items_of}
use Rattle.facts.specs.declared.world.World as code
use Rattle.facts.specs.States.{State, within}
use Rattle.facts.specs.Worlds.{World, Job, job_within}
use Rattle.facts.specs.Models.{row, size_of, seen}
use Rattle.lists.specs.declared.failure.Failure.{Failure}
use Rattle.lists.specs.declared.list.JobList.{JobList}
use Rattle.lists.specs.declared.list.ListFault.{ListFault}
use Rattle.lists.specs.declared.list.ListFault.TheVariants.{TooManyFacts, FactPast, TooManyJobs}
use Rattle.lists.specs.Lists.{jobs_of, Good}
use Rattle.lists.specs.Failures.{Verdict, judged, example, Says}

-- a number of facts, an opening, a goal and jobs
pub record Listed : Type 0 where
  pub facts : ℕ
  pub opening : State
  pub goal : State
  pub jobs : List Job

abbrev pub list_of : JobList → Listed
list_of l = record { facts = l.count; opening = row l.opening; goal = row l.goal; jobs = jobs_of (items_of l.jobs) }

-- the list of no jobs: refused with more than 256 facts, then where a state names a fact not below n
abbrev pub listed : ℕ → State → State → Result Listed ListFault
listed n O G = cond (nat_lt 256 n) (Err TooManyFacts) (cond (within n O && within n G) (Ok (record { facts = n; opening = O; goal = G; jobs = [] })) (Err FactPast))

abbrev pub more : Listed → Job → Listed
more l j = record { facts = l.facts; opening = l.opening; goal = l.goal; jobs = l.jobs ++ j ∷ [] }

-- one job more: refused after 64, then where it names a fact not below the list's number
abbrev pub with_job : Listed → Job → Result Listed ListFault
with_job l j = cond (nat_le 64 (length l.jobs)) (Err TooManyJobs) (cond (job_within l.facts j) (Ok (more l j)) (Err FactPast))

-- jobs are counted from 1
abbrev pub verdict_on : Listed → Verdict
verdict_on l = judged 1 l.opening l.jobs l.goal

abbrev pub GoodList : Listed → Type 0
GoodList l = Good l.facts l.opening l.goal l.jobs

-- what an answer says of the list, with the world w that comes with it
abbrev pub SaysOf : Listed → World → Option Failure → Type 0
SaysOf l w r = Says l.facts l.opening l.jobs l.goal w r

-- the world v after a check of the list that found it as w: the example world, of as many facts, or w itself
abbrev pub Shown : Listed → Verdict → code.World → code.World → Type 0
Shown l (Ok u) w v = v ≡ w
Shown l (Err e) w v = (size_of v ≡ l.facts) × (seen v ≡ example l.opening e.fact e.holds)
