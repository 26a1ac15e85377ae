-- What a verdict says of the worlds.
use Rattle.std.proofs.Common.{◌≡◌, ℕ, ◌<◌, ◌≤◌, Bool, true, false, List, [], ◌∷◌, ◌++◌, length, Some, None, Ok, Err, sym, refl, subst, arith}
use Rattle.facts.specs.States.{State, Within}
use Rattle.facts.specs.Worlds.{World, Job}
use Rattle.facts.specs.Words.{Exactly}
use Rattle.facts.proofs.Tests.{within_decides}
use Rattle.lists.specs.declared.failure.Failure.{Failure}
use Rattle.lists.specs.declared.failure.Failure.TheVariants as failure
use Rattle.lists.specs.Lists.{jobs_within, Works, Good}
use Rattle.lists.specs.Failures.{Verdict, judged, example, failure_of, Shows, Says}
use Rattle.lists.proofs.Places.{Fits, within_job}
use Rattle.lists.proofs.Passing.{Passes, Lacks, Tells, tells, works_passes, works_ready, works_there, works_end}
use Rattle.lists.proofs.Examples.{below_size, shows_example}

-- the world that comes with a verdict
abbrev pub Comes : State → Verdict → World → Type 0
Comes O (Ok u) w = Unit
Comes O (Err e) w = w ≡ example O e.fact e.holds

-- the fact of a failure is one of the list's
abbrev pub Known : ℕ → Verdict → Type 0
Known n (Ok u) = Unit
Known n (Err e) = e.fact < n

module _ (n : ℕ) (O G : State) (L : List Job) (f : Fits n O G L) (few : length L ≤ 64) where
  small : Within n O
  small = (within_decides n O).0 f.opening

  little : Within n G
  little = (within_decides n G).0 f.goal

  within_failing : (earlier : List Job) (j : Job) (rest : List Job) → L ≡ earlier ++ j ∷ rest → Within n j.precondition
  within_failing earlier j rest e = within_job n earlier j rest (subst (λ l. jobs_within n l ≡ true) e f.jobs)

  known_of : (t : Failure) (i : ℕ) (x : Bool) → Lacks 1 O L G t i x → i < n
  known_of (failure.Job k) i x t =
      below_size n O t.earlier t.job.precondition i x small (within_failing t.earlier t.job t.rest t.split) t.low t.turned
  known_of failure.Goal i x t = below_size n O L G i x small little t.1 t.2

  known : (v : Verdict) → Tells 1 O L G v → Known n v
  known (Ok u) t = tt
  known (Err e) t = known_of e.failure e.fact e.holds t

  fails : (f : Failure) (i : ℕ) (x : Bool) → Lacks 1 O L G f i x → (w : World) → w ≡ example O i x → Says n O L G w (Some f)
  fails (failure.Job k) i x t w c =
      record {
        earlier = t.earlier;
        job = t.job;
        rest = t.rest;
        split = t.split;
        place = omega (arith, t.place);
        ready = λ v s m. works_ready v t.earlier [] (works_passes O t.earlier [] t.passes v m);
        shows = subst (Shows n O t.earlier t.job.precondition) (sym c) (shows_example n O t.earlier t.job.precondition i x small (within_failing t.earlier t.job t.rest t.split) t.low t.turned);
      }
  fails failure.Goal i x t w c =
      record {
        ready = λ v s m. works_ready v L [] (works_passes O L [] t.0 v m);
        shows = subst (Shows n O L G) (sym c) (shows_example n O L G i x small little t.1 t.2);
      }

  says : (v : Verdict) → Tells 1 O L G v → (w : World) → Comes O v w → Says n O L G w (failure_of v)
  says (Ok u) t w c = record { few = few; works = λ v s m. works_passes O L G t v m }
  says (Err e) t w c = fails e.failure e.fact e.holds t w c

  pub known_fact : Known n (judged 1 O L G)
  known_fact = known (judged 1 O L G) (tells 1 O L G)

  pub says_so : (w : World) → Comes O (judged 1 O L G) w → Says n O L G w (failure_of (judged 1 O L G))
  says_so w c = says (judged 1 O L G) (tells 1 O L G) w c

  -- nothing is answered of a good list only
  no_failure : (f : Failure) (i : ℕ) (x : Bool) → Lacks 1 O L G f i x → Good n O G L → ⊥
  no_failure (failure.Job k) i x t g =
      let w = example O i x in
      let s = fails (failure.Job k) i x t w refl in
      s.shows.fails (works_there w s.earlier s.job s.rest G (subst (λ l. Works w l G) s.split (g.works w s.shows.example.sized s.shows.example.as_named)))
  no_failure failure.Goal i x t g =
      let w = example O i x in
      let s = (fails failure.Goal i x t w refl).shows in
      s.fails (works_end w L G (g.works w s.example.sized s.example.as_named))

  fine : (v : Verdict) → Tells 1 O L G v → Good n O G L → failure_of v ≡ None
  fine (Ok u) t g = refl
  fine (Err e) t g = absurd (no_failure e.failure e.fact e.holds t g)

  good : (v : Verdict) → Tells 1 O L G v → failure_of v ≡ None → Good n O G L
  good (Ok u) t e = says (Ok u) t (example O 0 false) tt
  good (Err f) t e = let z : ◌≡◌ {A = ℕ} 0 1 = cc in absurd (omega arith)

  pub exactly_good : Exactly (failure_of (judged 1 O L G) ≡ None) (Good n O G L)
  exactly_good = (good (judged 1 O L G) (tells 1 O L G), fine (judged 1 O L G) (tells 1 O L G))

  -- and a good list passes the check in terms of states
  pub good_passes : Good n O G L → Passes O L G
  good_passes g = go (judged 1 O L G) (tells 1 O L G) (exactly_good.1 g)
    where
      go : (v : Verdict) → Tells 1 O L G v → failure_of v ≡ None → Passes O L G
      go (Ok u) t e = t
      go (Err f) t e = let z : ◌≡◌ {A = ℕ} 0 1 = cc in absurd (omega arith)
