-- What the text of a list looks like.
use Rattle.std.specs.Prelude.{◌≡◌, ℕ, ◌≤◌, List, ◌∷◌, map, length, Ok, Result}
use Rattle.facts.specs.States.{State}
use Rattle.facts.specs.Words.{Exactly}
use Rattle.text.specs.Spelling.{closed}
use Rattle.names.specs.Spelling.{Denotes}
use Rattle.table.specs.Tables.{Table}
use Rattle.verdict.specs.Verdicts.{Plan, plan_from}
use Rattle.verdict.specs.Grammar.{tagged, job_name}
use Rattle.verdict.specs.Statements.{JobsOf}
use Rattle.listing.specs.declared.fault.ListingFault.{ListingFault}

-- an E line a job
abbrev pub job_texts : Table → List ℕ → List (List ℕ)
job_texts t L = map (λ k. tagged 69 (job_name t k)) L

-- s is the text of the opening O, the goal G and the jobs L, by their numbers: a B line, a G line, and an E line a job
pub record ListOf (t : Table) (s : List ℕ) (O G : State) (L : List ℕ) : Type 0 where
  pub short : length s ≤ 1048576
  pub first : List ℕ
  pub second : List ℕ
  pub lines : s ≡ closed (tagged 66 first ∷ tagged 71 second ∷ job_texts t L)
  pub opening : Denotes t.facts first O
  pub goal : Denotes t.facts second G
  pub jobs : JobsOf t L

-- a list is read exactly when the text is one of its opening, goal and jobs
abbrev pub ListsExactly : Table → List ℕ → Result Plan ListingFault → Type 0
ListsExactly t s r = (O G : State) (L : List ℕ) → Exactly (r ≡ Ok (plan_from t O G L)) (ListOf t s O G L)
