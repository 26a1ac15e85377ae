-- Lists and plans made of what a slip says.
use Rattle.std.proofs.Common.{◌≡◌, ℕ, Bool, true, false, ◌||◌, ◌⊎◌, List, [], ◌∷◌, Decides, sym, refl, ap, subst, inl, inr, arith}
use Rattle.std.specs.List.{list_any}
use Rattle.facts.specs.declared.job.Job as code
use Rattle.facts.specs.States.{State, mark, named}
use Rattle.facts.specs.Worlds.{Job}
use Rattle.facts.specs.Models.{job_of}
use Rattle.lists.specs.Lists.{jobs_of}
use Rattle.lists.specs.Models.{Listed, GoodList}
use Rattle.slip.specs.Plans.{job_names, jobs_name, JobNames, footprint, Footprint}
use Rattle.verdict.specs.Verdicts.{Plan}

-- a list of no jobs whose goal is its opening
pub good_empty : (l : Listed) (n : ℕ) (P : State) → l ≡ record { facts = n; opening = P; goal = P; jobs = [] } → GoodList l
good_empty l n P e = subst GoodList (sym e) (record { few = omega arith; works = λ w s m. m })

-- which facts are named
either : (a b : Bool) (P Q : Type 0) → Decides a P → Decides b Q → Decides (a || b) (P ⊎ Q)
either true b P Q p q = (λ h. inl (p.0 refl), λ h. refl)
either false b P Q p q = (λ h. inr (q.0 h), λ h. other h)
  where
    other : P ⊎ Q → b ≡ true
    other (inl x) = let z = p.1 x in let w : ◌≡◌ {A = ℕ} 0 1 = cc in absurd (omega arith)
    other (inr y) = q.1 y

or_assoc : (a b c : Bool) → ((a || b) || c) ≡ (a || (b || c))
or_assoc true b c = refl
or_assoc false b c = refl

itself : (b : Bool) → Decides b (b ≡ true)
itself b = (λ h. h, λ h. h)

jobs_decide : (L : List Job) (i : ℕ) → Decides (jobs_name L i) (JobNames L i)
jobs_decide [] i = (λ h. let w : ◌≡◌ {A = ℕ} 0 1 = cc in absurd (omega arith), λ h. absurd h)
jobs_decide (j ∷ L) i =
    let p = named (mark j.precondition i) in
    let e = named (mark j.effect i) in
    subst (λ (b : Bool). Decides b (JobNames (j ∷ L) i)) (sym (or_assoc p e (jobs_name L i))) (either p (e || jobs_name L i) _ _ (itself p) (either e (jobs_name L i) _ _ (itself e) (jobs_decide L i)))

-- the library's test of a list, and the definition's
pub any_named : (L : List code.Job) (i : ℕ) → list_any (λ (j : code.Job). job_names (job_of j) i) L ≡ jobs_name (jobs_of L) i
any_named [] i = refl
any_named (j ∷ L) i = ap (λ b. job_names (job_of j) i || b) (any_named L i)

pub footprint_decides : (p : Plan) (i : ℕ) → Decides (footprint p i) (Footprint p i)
footprint_decides p i = either (named (mark p.opening i)) (named (mark p.goal i) || jobs_name p.jobs i) _ _ (itself _) (either (named (mark p.goal i)) (jobs_name p.jobs i) _ _ (itself _) (jobs_decide p.jobs i))
