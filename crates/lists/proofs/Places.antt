-- Lists of jobs that fit, and a list taken apart.
use Rattle.std.proofs.Common.{◌≡◌, ℕ, ◌-◌, ◌<◌, ◌≤◌, true, ◌&&◌, List, [], ◌∷◌, ◌++◌, length, get_or, take, drop, sym, refl, arith}
use Rattle.std.proofs.lemmas.List.{take_all}
use Rattle.std.proofs.lemmas.Bool.{and_parts, and_from}
use Rattle.facts.specs.declared.job.Job as code
use Rattle.facts.specs.States.{State, Within, within}
use Rattle.facts.specs.Worlds.{Job, job_within}
use Rattle.facts.proofs.Tests.{within_decides}
use Rattle.lists.specs.Lists.{jobs_within, fits}

jobs_within_push : (n : ℕ) (L : List Job) (j : Job) → jobs_within n L ≡ true → job_within n j ≡ true → jobs_within n (L ++ j ∷ []) ≡ true
jobs_within_push n [] j h k = and_from (job_within n j) true k refl
jobs_within_push n (i ∷ L) j h k =
    let p = and_parts (job_within n i) (jobs_within n L) h in
    and_from (job_within n i) (jobs_within n (L ++ j ∷ [])) p.0 (jobs_within_push n L j p.1 k)

-- a list that fits, in its parts
pub record Fits (n : ℕ) (O G : State) (L : List Job) : Type 0 where
  pub opening : within n O ≡ true
  pub goal : within n G ≡ true
  pub jobs : jobs_within n L ≡ true

pub fits_parts : (n : ℕ) (O G : State) (L : List Job) → fits n O G L ≡ true → Fits n O G L
fits_parts n O G L h =
    let p = and_parts (within n O) (within n G && jobs_within n L) h in
    let q = and_parts (within n G) (jobs_within n L) p.1 in
    record { opening = p.0; goal = q.0; jobs = q.1 }

pub parts_fit : (n : ℕ) (O G : State) (L : List Job) → Fits n O G L → fits n O G L ≡ true
parts_fit n O G L f = and_from (within n O) (within n G && jobs_within n L) f.opening (and_from (within n G) (jobs_within n L) f.goal f.jobs)

pub fits_push : (n : ℕ) (O G : State) (L : List Job) (j : Job) → fits n O G L ≡ true → job_within n j ≡ true → fits n O G (L ++ j ∷ []) ≡ true
fits_push n O G L j h k =
    let f = fits_parts n O G L h in
    parts_fit n O G (L ++ j ∷ []) (record { opening = f.opening; goal = f.goal; jobs = jobs_within_push n L j f.jobs k })

pub within_job : (n : ℕ) (earlier : List Job) (j : Job) (rest : List Job) → jobs_within n (earlier ++ j ∷ rest) ≡ true → Within n j.precondition
within_job n [] j rest h =
    let p = and_parts (job_within n j) (jobs_within n rest) h in
    (within_decides n j.precondition).0 (and_parts (within n j.precondition) (within n j.effect) p.0).0
within_job n (i ∷ earlier) j rest h = within_job n earlier j rest (and_parts (job_within n i) (jobs_within n (earlier ++ j ∷ rest)) h).1

-- a list of one or more, taken apart as the code does it
pub first_and_rest : (L : List code.Job) (j : code.Job) → 0 < length L → j ≡ get_or L 0 j → L ≡ j ∷ take (length L - 1) (drop 1 L)
first_and_rest [] j h is = absurd (omega arith)
first_and_rest (k ∷ L) j h is = let n : length L ≤ length (k ∷ L) - 1 = omega arith in (λ d. sym is d ∷ sym (take_all (length (k ∷ L) - 1) L n) d)
