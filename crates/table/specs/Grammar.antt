-- What the text of a table looks like: the lines of its facts, then those of its jobs.
use Rattle.std.specs.Prelude.{◌≡◌, ℕ, ◌≤◌, true, List, [], ◌∷◌, ◌++◌, map, length, Ok, Result}
use Rattle.facts.specs.Words.{Exactly}
use Rattle.text.specs.Spelling.{join, closed}
use Rattle.names.specs.Names.{proper_names}
use Rattle.names.specs.Spelling.{Denotes}
use Rattle.table.specs.declared.fault.TableFault.{TableFault}
use Rattle.table.specs.Rows.{Row, job_names}
use Rattle.table.specs.Tables.{Table}

-- N and the name
abbrev pub fact_text : List ℕ → List ℕ
fact_text n = join 9 ((78 ∷ []) ∷ n ∷ [])

-- D, the name, the precondition and the effect
abbrev pub job_text : List ℕ → List ℕ → List ℕ → List ℕ
job_text n p e = join 9 ((68 ∷ []) ∷ n ∷ p ∷ e ∷ [])

-- the line of a job: two of its fields spell the job's states, literals in any order
pub record JobLine (facts : List (List ℕ)) (l : List ℕ) (r : Row) : Type 0 where
  pub needs : List ℕ
  pub sets : List ℕ
  pub line : l ≡ job_text r.name needs sets
  pub precondition : Denotes facts needs r.job.precondition
  pub effect : Denotes facts sets r.job.effect

-- the lines of jobs, in their order
abbrev pub JobLines : List (List ℕ) → List (List ℕ) → List Row → Type 0
JobLines facts [] [] = Unit {0}
JobLines facts [] (r ∷ rs) = ⊥
JobLines facts (l ∷ ls) [] = ⊥
JobLines facts (l ∷ ls) (r ∷ rs) = JobLine facts l r × JobLines facts ls rs

-- the lines of a table: within the limits, and names well formed and distinct by kind
pub record LinesOf (ls : List (List ℕ)) (t : Table) : Type 0 where
  pub few_facts : length t.facts ≤ 256
  pub few_jobs : length t.jobs ≤ 128
  pub facts_named : proper_names t.facts ≡ true
  pub jobs_named : proper_names (job_names t.jobs) ≡ true
  pub job_lines : List (List ℕ)
  pub all : ls ≡ map fact_text t.facts ++ job_lines
  pub jobs : JobLines t.facts job_lines t.jobs

-- the text of a table: its lines, each ended, in at most 1,048,576 bytes
pub record TextOf (s : List ℕ) (t : Table) : Type 0 where
  pub short : length s ≤ 1048576
  pub lines : List (List ℕ)
  pub ended : s ≡ closed lines
  pub of : LinesOf lines t

-- a table is read exactly when the text is one of that table
abbrev pub ReadExactly : List ℕ → Result Table TableFault → Type 0
ReadExactly s r = (t : Table) → Exactly (r ≡ Ok t) (TextOf s t)
