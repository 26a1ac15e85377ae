-- The derivation that is written for a list.
use Rattle.std.specs.Prelude.{ℕ, List, [], ◌∷◌}
use Rattle.facts.specs.States.{State, overridden, without}
use Rattle.facts.specs.Worlds.{Job}
use Rattle.rules.specs.Rules.{Tree}
use Rattle.rules.specs.Rules.Tree.{H, A, C, W, S, F}

-- P without the facts that the job names
abbrev pub beside : State → Job → State
beside P j = without (without P j.precondition) j.effect

abbrev pub one_job : (ℕ → Job) → State → ℕ → Tree
one_job job P k = F (beside P (job k)) (A k)

-- the job k and then those of L, from what is known before them
abbrev pub steps : (ℕ → Job) → State → ℕ → List ℕ → Tree
steps job P k [] = one_job job P k
steps job P k (m ∷ L) = C (one_job job P k) (steps job (overridden P (job k).effect) m L)

abbrev pub all_steps : (ℕ → Job) → State → List ℕ → Tree
all_steps job P [] = F P H
all_steps job P (k ∷ L) = steps job P k L

-- the derivation written for the opening O, the goal G and the jobs L
abbrev pub written : (ℕ → Job) → State → State → List ℕ → Tree
written job O G L = W O (S G (all_steps job O L))
