-- The check of a list, in terms of states: what it passes, and where it stops.
use Rattle.std.proofs.Common.{◌≡◌, ℕ, ◌+◌, Bool, true, false, List, [], ◌∷◌, ◌++◌, length, Some, None, Ok, Err, Option, sym, refl, ap, ◌∙◌, arith}
use Rattle.facts.specs.declared.mark.Mark.TheVariants.{Unnamed}
use Rattle.facts.specs.States.{State, mark, named, Has, Covers, overridden, missing}
use Rattle.facts.specs.Worlds.{World, Job, Meets, carried}
use Rattle.facts.specs.Words.{Empty, Lowest}
use Rattle.facts.proofs.Marks.{mark_over, mark_missing, missing_none, over_unnamed, over_sets, set_unnamed}
use Rattle.facts.proofs.Tests.{lowest_is}
use Rattle.lists.specs.declared.failure.Failure.{Failure}
use Rattle.lists.specs.declared.failure.Failure.TheVariants as failure
use Rattle.lists.specs.Lists.{ran, Ready, Works}
use Rattle.lists.specs.Failures.{Verdict, opposite, lacking, lack, first_of, judged}

-- each precondition is covered in turn, and the goal at the end
abbrev pub Passes : State → List Job → State → Type 0
Passes P [] G = Covers P G
Passes P (j ∷ L) G = Covers P j.precondition × Passes (overridden P j.effect) L G

-- P overridden by the effects of the jobs in turn
abbrev pub after : State → List Job → State
after P [] = P
after P (j ∷ L) = after (overridden P j.effect) L

-- P has each literal of Q whose fact is not missing
pub has_below : (P Q : State) (i : ℕ) (b : Bool) → (named (mark (missing P Q) i) ≡ true → ⊥) → Has Q i b → Has P i b
has_below P Q i b n h = missing_none (mark P i) (mark Q i) b (λ k. n (ap named (mark_missing P Q i) ∙ k)) h

all_covered : (P Q : State) → Empty (missing P Q) → Covers P Q
all_covered P Q e i b h = has_below P Q i b (e i) h

-- job k is the first whose precondition is not covered, where L begins with job n; i is the lowest fact that it lacks,
-- and x what that is in the example
pub record JobLacks (n : ℕ) (P : State) (L : List Job) (k i : ℕ) (x : Bool) : Type 0 where
  pub earlier : List Job
  pub job : Job
  pub rest : List Job
  pub split : L ≡ earlier ++ job ∷ rest
  pub place : k ≡ n + length earlier
  pub passes : Passes P earlier []
  pub low : Lowest (missing (after P earlier) job.precondition) (Some i)
  pub turned : x ≡ opposite (mark job.precondition i)

-- what fails, of a list whose first job is job n
abbrev pub Lacks : ℕ → State → List Job → State → Failure → ℕ → Bool → Type 0
Lacks n P L G (failure.Job k) i x = JobLacks n P L k i x
Lacks n P L G failure.Goal i x = Passes P L [] × Lowest (missing (after P L) G) (Some i) × (x ≡ opposite (mark G i))

-- what a verdict says of the states
abbrev pub Tells : ℕ → State → List Job → State → Verdict → Type 0
Tells n P L G (Ok u) = Passes P L G
Tells n P L G (Err e) = Lacks n P L G e.failure e.fact e.holds

covers_none : (P : State) → Covers P []
covers_none P i true e = let z : ◌≡◌ {A = ℕ} 0 1 = cc in absurd (omega arith)
covers_none P i false e = let z : ◌≡◌ {A = ℕ} 0 1 = cc in absurd (omega arith)

tells_goal : (n : ℕ) (P G : State) (o : Option ℕ) → Lowest (missing P G) o → Tells n P [] G (lack failure.Goal G o)
tells_goal n P G None l = all_covered P G l
tells_goal n P G (Some i) l = (covers_none P, l, refl)

lacks_later : (n : ℕ) (P : State) (j : Job) (L : List Job) (G : State) (f : Failure) (i : ℕ) (x : Bool) → Covers P j.precondition → Lacks (n + 1) (overridden P j.effect) L G f i x → Lacks n P (j ∷ L) G f i x
lacks_later n P j L G (failure.Job k) i x c t =
    record { earlier = j ∷ t.earlier; job = t.job; rest = t.rest; split = ap (λ l. j ∷ l) t.split; place = omega (arith, t.place); passes = (c, t.passes); low = t.low; turned = t.turned }
lacks_later n P j L G failure.Goal i x c t = ((c, t.0), t.1, t.2)

tells_later : (n : ℕ) (P : State) (j : Job) (L : List Job) (G : State) (v : Verdict) → Covers P j.precondition → Tells (n + 1) (overridden P j.effect) L G v → Tells n P (j ∷ L) G v
tells_later n P j L G (Ok u) c t = (c, t)
tells_later n P j L G (Err e) c t = lacks_later n P j L G e.failure e.fact e.holds c t

tells_job : (n : ℕ) (P : State) (j : Job) (L : List Job) (G : State) (o : Option ℕ) (v : Verdict) → Lowest (missing P j.precondition) o → Tells (n + 1) (overridden P j.effect) L G v → Tells n P (j ∷ L) G (first_of (lack (failure.Job n) j.precondition o) v)
tells_job n P j L G None v l t = tells_later n P j L G v (all_covered P j.precondition l) t
tells_job n P j L G (Some i) v l t = record { earlier = []; job = j; rest = L; split = refl; place = omega arith; passes = covers_none P; low = l; turned = refl }

pub tells : (n : ℕ) (P : State) (L : List Job) (G : State) → Tells n P L G (judged n P L G)
tells n P [] G = tells_goal n P G (lacking P G) (lowest_is (missing P G))
tells n P (j ∷ L) G =
    tells_job n P j L G (lacking P j.precondition) (judged (n + 1) (overridden P j.effect) L G) (lowest_is (missing P j.precondition)) (tells (n + 1) (overridden P j.effect) L G)

pub meets_carried : (w : World) (P E : State) → Meets w P → Meets (carried E w) (overridden P E)
meets_carried w P E m i b h = over_sets (mark P i) (mark E i) (w i) b (m i b) (sym (mark_over P E i) ∙ h)

pub meets_covered : (w : World) (P Q : State) → Covers P Q → Meets w P → Meets w Q
meets_covered w P Q c m i b h = m i b (c i b h)

-- the state after the jobs is met, and what it does not name is as it was
pub meets_after : (O : State) (L : List Job) (w : World) → Meets w O → Meets (ran L w) (after O L)
meets_after O [] w m = m
meets_after O (j ∷ L) w m = meets_after (overridden O j.effect) L (carried j.effect w) (meets_carried w O j.effect m)

pub same_after : (O : State) (L : List Job) (w : World) (i : ℕ) → mark (after O L) i ≡ Unnamed → (mark O i ≡ Unnamed) × (ran L w i ≡ w i)
same_after O [] w i h = (h, refl)
same_after O (j ∷ L) w i h =
    let t = same_after (overridden O j.effect) L (carried j.effect w) i h in
    let u = over_unnamed (mark O i) (mark j.effect i) (sym (mark_over O j.effect i) ∙ t.0) in
    (u.0, t.1 ∙ set_unnamed (mark j.effect i) (w i) u.1)

-- a list that passes works in every world that meets the state
pub works_passes : (P : State) (L : List Job) (G : State) → Passes P L G → (w : World) → Meets w P → Works w L G
works_passes P [] G c w m = meets_covered w P G c m
works_passes P (j ∷ L) G p w m =
    (meets_covered w P j.precondition p.0 m, works_passes (overridden P j.effect) L G p.1 (carried j.effect w) (meets_carried w P j.effect m))

pub works_ready : (w : World) (L : List Job) (G : State) → Works w L G → Ready w L
works_ready w [] G k = tt
works_ready w (j ∷ L) G k = (k.0, works_ready (carried j.effect w) L G k.1)

pub works_there : (w : World) (earlier : List Job) (j : Job) (rest : List Job) (G : State) → Works w (earlier ++ j ∷ rest) G → Meets (ran earlier w) j.precondition
works_there w [] j rest G k = k.0
works_there w (e ∷ earlier) j rest G k = works_there (carried e.effect w) earlier j rest G k.1

pub works_end : (w : World) (L : List Job) (G : State) → Works w L G → Meets (ran L w) G
works_end w [] G m = m
works_end w (j ∷ L) G k = works_end (carried j.effect w) L G k.1
