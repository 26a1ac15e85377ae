-- What the check of a list answers, from its verdict and the world that comes with it.
use Rattle.std.proofs.lemmas.List.{length-map}
use Rattle.std.proofs.Common.{◌≡◌, ◌≤◌, length, None, Ok, Err, sym, subst, arith}
use Rattle.filled.specs.Items.{items_of}
use Rattle.facts.specs.declared.world.World.{World}
use Rattle.facts.specs.Models.{job_of, seen}
use Rattle.facts.specs.Words.{Exactly}
use Rattle.lists.specs.declared.list.JobList.{JobList}
use Rattle.lists.specs.Failures.{Verdict, failure_of}
use Rattle.lists.specs.Models.{Listed, list_of, verdict_on, GoodList, SaysOf, Shown}
use Rattle.lists.proofs.Places.{Fits, fits_parts}
use Rattle.lists.proofs.Verdicts.{Comes, Known, known_fact, says_so, exactly_good}

comes : (l : Listed) (v : Verdict) (w u : World) → Shown l v w u → Comes l.opening v (seen u)
comes l (Ok v) w u s = tt
comes l (Err e) w u s = s.1

module _ (l : JobList) where
  inside : Fits (list_of l).facts (list_of l).opening (list_of l).goal (list_of l).jobs
  inside = fits_parts l.count (list_of l).opening (list_of l).goal (list_of l).jobs l.inside

  short : length (list_of l).jobs ≤ 64
  short = omega (arith, length-map (items_of l.jobs) job_of, l.short)

  pub known_by : (v : Verdict) → v ≡ verdict_on (list_of l) → Known (list_of l).facts v
  known_by v e = subst (Known (list_of l).facts) (sym e) (known_fact (list_of l).facts (list_of l).opening (list_of l).goal (list_of l).jobs inside short)

  module _ (v : Verdict) (e : v ≡ verdict_on (list_of l)) (w u : World) (s : Shown (list_of l) v w u) where
    pub after_by : Shown (list_of l) (verdict_on (list_of l)) w u
    after_by = subst (λ (x : Verdict). Shown (list_of l) x w u) e s

    pub good_by : Exactly (failure_of v ≡ None) (GoodList (list_of l))
    good_by =
        subst (λ (x : Verdict). Exactly (failure_of x ≡ None) (GoodList (list_of l))) (sym e) (exactly_good (list_of l).facts (list_of l).opening (list_of l).goal (list_of l).jobs inside short)

    pub fails_by : SaysOf (list_of l) (seen u) (failure_of v)
    fails_by =
        subst (λ (x : Verdict). SaysOf (list_of l) (seen u) (failure_of x)) (sym e) (says_so (list_of l).facts (list_of l).opening (list_of l).goal (list_of l).jobs inside short (seen u) (comes (list_of l) (verdict_on (list_of l)) w u after_by))
