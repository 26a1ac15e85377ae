-- The great statements: which slips are accepted, and which lists have one.
use Rattle.std.specs.Prelude.{◌≡◌, ℕ, ◌<◌, ◌≤◌, true, List, map, length, Ok}
use Rattle.std.specs.List.{AllByRecursion}
use Rattle.facts.specs.States.{State, Within, within}
use Rattle.facts.specs.Words.{Exactly}
use Rattle.lists.specs.Lists.{Good}
use Rattle.names.specs.Names.{proper_names}
use Rattle.table.specs.Rows.{Row, proper_jobs}
use Rattle.table.specs.Tables.{Table}
use Rattle.table.specs.Jobs.{job_at}
use Rattle.verdict.specs.Verdicts.{judge, plan_from}
use Rattle.verdict.specs.Grammar.{AcceptsExactly}
use Rattle.verdict.specs.Slips.{slip_text}

-- a job whose states have 256 places
pub record FullRow (r : Row) : Type 0 where
  pub precondition : length r.job.precondition ≡ 256
  pub effect : length r.job.effect ≡ 256

-- what every table that was read is: at most 256 facts, names well formed and distinct, and jobs that name its facts
pub record ProperTable (t : Table) : Type 0 where
  pub few : length t.facts ≤ 256
  pub facts : proper_names t.facts ≡ true
  pub jobs : proper_jobs (length t.facts) t.jobs ≡ true
  pub places : AllByRecursion FullRow t.jobs

-- a state over the table's facts, in 256 places
pub record StateOver (t : Table) (s : State) : Type 0 where
  pub places : length s ≡ 256
  pub within : Within (length t.facts) s

-- up to 64 jobs of the table, by their numbers
pub record JobsOf (t : Table) (L : List ℕ) : Type 0 where
  pub few : length L ≤ 64
  pub known : AllByRecursion (λ k. k < length t.jobs) L

-- the list is good: it works in every world of the table's number of facts that meets the opening
abbrev pub GoodJobs : Table → State → State → List ℕ → Type 0
GoodJobs t O G L = Good (length t.facts) O G (map (job_at t) L)

-- some text is accepted with this opening, goal and list of jobs exactly if the list is good
abbrev pub AcceptsGood : Table → Type 0
AcceptsGood t = (O G : State) (L : List ℕ) → StateOver t O → StateOver t G → JobsOf t L → Exactly ((s : List ℕ) × (judge t s ≡ Ok (plan_from t O G L))) (GoodJobs t O G L)

-- the written slip of a good list is accepted with it, and has at most 454,598 bytes
abbrev pub WritesAccepted : Table → Type 0
WritesAccepted t = (O G : State) (L : List ℕ) → StateOver t O → StateOver t G → JobsOf t L → GoodJobs t O G L → (judge t (slip_text t O G L) ≡ Ok (plan_from t O G L)) × (length (slip_text t O G L) ≤ 454598)

-- what an accepted plan has beside its parts: it is good, and its states and jobs are of the table
pub record PlanFacts (t : Table) (O G : State) (L : List ℕ) : Type 0 where
  pub good : GoodJobs t O G L
  pub opening : within (length t.facts) O ≡ true
  pub goal : within (length t.facts) G ≡ true
  pub jobs : JobsOf t L

-- the three over every table that can be read
abbrev pub EverySlip : Type 0
EverySlip = (t : Table) → ProperTable t → (s : List ℕ) → AcceptsExactly t s (judge t s)

abbrev pub EveryList : Type 0
EveryList = (t : Table) → ProperTable t → AcceptsGood t

abbrev pub EveryWriting : Type 0
EveryWriting = (t : Table) → ProperTable t → WritesAccepted t
