-- One job of the list checked, and then the rest.
use Rattle.std.proofs.Common.{◌≡◌, ℕ, ◌+◌, ◌<◌, List, length, get_or, drop, sym, ap, ◌∙◌}
use Rattle.std.proofs.lemmas.List.{at_drop_more}
use Rattle.facts.specs.declared.job.Job as code
use Rattle.facts.specs.States.{State, overridden}
use Rattle.facts.specs.Models.{job_of}
use Rattle.lists.specs.declared.failure.Failure.TheVariants as failure
use Rattle.lists.specs.Lists.{jobs_of}
use Rattle.lists.specs.Failures.{lacking, lack, first_of, judged}

pub turned : (k i : ℕ) (P G : State) (L : List code.Job) (j : code.Job) → i < length L → j ≡ get_or L i j → judged k P (jobs_of (drop i L)) G ≡ first_of (lack (failure.Job k) (job_of j).precondition (lacking P (job_of j).precondition)) (judged (k + 1) (overridden P (job_of j).effect) (jobs_of (drop (i + 1) L)) G)
turned k i P G L j l is =
    at_drop_more (λ (M : List code.Job). judged k P (jobs_of M) G) L i j l
    ∙ ap (λ (h : code.Job). first_of (lack (failure.Job k) (job_of h).precondition (lacking P (job_of h).precondition)) (judged (k + 1) (overridden P (job_of h).effect) (jobs_of (drop (i + 1) L)) G)) (sym is)
