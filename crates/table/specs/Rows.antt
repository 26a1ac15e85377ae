-- Rows, and which of them may stand in a table.
use Rattle.std.specs.Prelude.{◌≡◌, ℕ, Bool, true, false, ◌&&◌, List, map, is_some}
use Rattle.facts.specs.Worlds.{Job, job_within}
use Rattle.facts.specs.Models.{job_of}
use Rattle.text.specs.Lists.{each}
use Rattle.names.specs.Names.{good_name, found_at, proper_names}
use Rattle.names.specs.Models.{spelling}
use Rattle.table.specs.declared.fact_row.FactRow.{FactRow}
use Rattle.table.specs.declared.job_row.JobRow as code

-- a job and its name
pub record Row : Type 0 where
  pub name : List ℕ
  pub job : Job

abbrev pub row_of : code.JobRow → Row
row_of r = record { name = spelling r.name; job = job_of r.job }

abbrev pub rows_of : List code.JobRow → List Row
rows_of rs = map row_of rs

abbrev pub titles : List FactRow → List (List ℕ)
titles fs = map (λ (r : FactRow). spelling r.name) fs

abbrev pub job_titles : List code.JobRow → List (List ℕ)
job_titles rs = map (λ (r : code.JobRow). spelling r.name) rs

abbrev pub job_names : List Row → List (List ℕ)
job_names rs = map (λ (r : Row). r.name) rs

-- the name n is well formed, and none of these
abbrev pub NewTo : List ℕ → List (List ℕ) → Type 0
NewTo n names = (good_name n ≡ true) × (is_some (found_at n names) ≡ false)

-- well formed and distinct, and naming only facts below n
abbrev pub proper_jobs : ℕ → List Row → Bool
proper_jobs n rs = proper_names (job_names rs) && each (λ (r : Row). job_within n r.job) rs
