-- Where a list fails first, and the world to show for it.
use Rattle.std.specs.Prelude.{◌≡◌, ℕ, ◌+◌, ◌<◌, Bool, true, false, not, ◌&&◌, List, [], ◌∷◌, ◌++◌, length, Some, None, Ok, Err, Option, Result, ◌==◌, ◌≢◌}
use Rattle.facts.specs.declared.mark.Mark.{Mark}
use Rattle.facts.specs.declared.mark.Mark.TheVariants.{Unnamed, Holds, Fails}
use Rattle.facts.specs.States.{State, mark, Has, Named, overridden, missing, lowest}
use Rattle.facts.specs.Worlds.{World, Job, Sized, Meets, carried}
use Rattle.lists.specs.declared.failure.Failure.{Failure}
use Rattle.lists.specs.declared.failure.Failure.TheVariants as failure
use Rattle.lists.specs.declared.failure.Lack.{Lack}
use Rattle.lists.specs.Lists.{ran, Ready, Good}

-- what its fact is where a literal fails
abbrev pub opposite : Mark → Bool
opposite Unnamed = false
opposite Holds = false
opposite Fails = true

-- the lowest fact of which Q has a literal that P lacks
abbrev pub lacking : State → State → Option ℕ
lacking P Q = lowest (missing P Q)

-- what a check of a list finds: nothing, or what fails first, the fact of its literal that fails, and what that fact is in
-- the world to show
abbrev pub Verdict : Type 0
Verdict = Result (Unit {0}) Lack

-- the state Q, wanted for f, where i is the lowest fact of a literal that is lacking, if one is
abbrev pub lack : Failure → State → Option ℕ → Verdict
lack f Q None = Ok tt
lack f Q (Some i) = Err (record { failure = f; fact = i; holds = opposite (mark Q i) })

-- the first that fails of the two
abbrev pub first_of : Verdict → Verdict → Verdict
first_of (Ok u) v = v
first_of (Err e) v = Err e

-- the jobs L, the first of which is job k, and the goal G checked from the state P, which the effects override in turn
abbrev pub judged : ℕ → State → List Job → State → Verdict
judged k P [] G = lack failure.Goal G (lacking P G)
judged k P (j ∷ L) G = first_of (lack (failure.Job k) j.precondition (lacking P j.precondition)) (judged (k + 1) (overridden P j.effect) L G)

abbrev pub failure_of : Verdict → Option Failure
failure_of (Ok u) = None
failure_of (Err e) = Some e.failure

abbrev pub failure_number : Failure → ℕ
failure_number (failure.Job k) = 30
failure_number failure.Goal = 31

-- the world to show: as O names it; else fact i is as x says, and no other fact holds
abbrev pub example : State → ℕ → Bool → World
example O i x = carried O (λ k. (k == i) && x)

-- the literal of fact i and sign b fails, after the jobs L, in some world of n facts that meets O
pub record FailsSomewhere (n : ℕ) (O : State) (L : List Job) (i : ℕ) (b : Bool) : Type 0 where
  pub world : World
  pub sized : Sized n world
  pub meets : Meets world O
  pub fails : ran L world i ≡ b → ⊥

-- w is the example world for the state Q, wanted after the jobs L: of the literals of Q that fail somewhere, the one
-- of the lowest fact counts; that fact, if O does not name it, is opposite to it, and all others do not hold
pub record Example (n : ℕ) (O : State) (L : List Job) (Q : State) (w : World) : Type 0 where
  pub fact : ℕ
  pub plus : Bool
  pub literal : Has Q fact plus
  pub fails : FailsSomewhere n O L fact plus
  pub first : (i : ℕ) (b : Bool) → i < fact → Has Q i b → FailsSomewhere n O L i b → ⊥
  pub sized : Sized n w
  pub as_named : Meets w O
  pub turned : (Named O fact → ⊥) → w fact ≡ not plus
  pub others : (i : ℕ) → (Named O i → ⊥) → (i ≢ fact) → w i ≡ false

-- Q is not met after the jobs L in w, which is the one example world for it
pub record Shows (n : ℕ) (O : State) (L : List Job) (Q : State) (w : World) : Type 0 where
  pub example : Example n O L Q w
  pub only : (v : World) → Example n O L Q v → v ≡ w
  pub fails : Meets (ran L w) Q → ⊥

-- each of the jobs L is met in turn, in every world of n facts that meets O
abbrev pub AlwaysReady : ℕ → State → List Job → Type 0
AlwaysReady n O L = (w : World) → Sized n w → Meets w O → Ready w L

-- job k of L, from 1, is the first that fails in some world that meets O, and it fails in w
pub record FailsAtJob (n : ℕ) (O : State) (L : List Job) (k : ℕ) (w : World) : Type 0 where
  pub earlier : List Job
  pub job : Job
  pub rest : List Job
  pub split : L ≡ earlier ++ job ∷ rest
  pub place : k ≡ length earlier + 1
  pub ready : AlwaysReady n O earlier
  pub shows : Shows n O earlier job.precondition w

-- no job fails in any world that meets O, and the goal fails in w
pub record FailsAtGoal (n : ℕ) (O : State) (L : List Job) (G : State) (w : World) : Type 0 where
  pub ready : AlwaysReady n O L
  pub shows : Shows n O L G w

-- what an answer says, with the world w that comes with it
abbrev pub Says : ℕ → State → List Job → State → World → Option Failure → Type 0
Says n O L G w None = Good n O G L
Says n O L G w (Some (failure.Job k)) = FailsAtJob n O L k w
Says n O L G w (Some failure.Goal) = FailsAtGoal n O L G w
