-- Job lists, carrying them out, and which of them are good.
use Rattle.std.specs.Prelude.{ℕ, ◌≤◌, Bool, true, ◌&&◌, List, [], ◌∷◌, map, length}
use Rattle.facts.specs.declared.job.Job as code
use Rattle.facts.specs.States.{State, within}
use Rattle.facts.specs.Worlds.{World, Job, Sized, Meets, carried, job_within}
use Rattle.facts.specs.Models.{job_of}

abbrev pub jobs_of : List code.Job → List Job
jobs_of L = map job_of L

-- whether the jobs name only facts below n
abbrev pub jobs_within : ℕ → List Job → Bool
jobs_within n [] = true
jobs_within n (j ∷ L) = job_within n j && jobs_within n L

-- whether the opening O, the goal G and the jobs L name only facts below n
abbrev pub fits : ℕ → State → State → List Job → Bool
fits n O G L = within n O && (within n G && jobs_within n L)

-- the world after the jobs, carried out in turn
abbrev pub ran : List Job → World → World
ran [] w = w
ran (j ∷ L) w = ran L (carried j.effect w)

-- each precondition is met in turn
abbrev pub Ready : World → List Job → Type 0
Ready w [] = Unit
Ready w (j ∷ L) = Meets w j.precondition × Ready (carried j.effect w) L

-- each precondition is met in turn, and the goal at the end
abbrev pub Works : World → List Job → State → Type 0
Works w [] G = Meets w G
Works w (j ∷ L) G = Meets w j.precondition × Works (carried j.effect w) L G

-- a good list: at most 64 jobs, and it works in every world of n facts that meets the opening
pub record Good (n : ℕ) (O G : State) (L : List Job) : Type 0 where
  pub few : length L ≤ 64
  pub works : (w : World) → Sized n w → Meets w O → Works w L G
