-- Derivations and the six rules.
use Rattle.std.specs.Prelude.{ℕ, suc, max, ◌⊎◌, List, [], ◌∷◌, ◌++◌}
use Rattle.facts.specs.States.{State, Named, Covers, Apart, nothing, overridden}
use Rattle.facts.specs.Worlds.{Job}

-- a derivation as it is written: each line and its premises; a job goes by its number
pub data Tree : Type 0 where
  H : Tree
  A : ℕ → Tree
  C : Tree → Tree → Tree
  W : State → Tree → Tree
  S : State → Tree → Tree
  F : State → Tree → Tree

-- how deep the deepest line stands, the first having depth 1
abbrev pub depth : Tree → ℕ
depth H = 1
depth (A k) = 1
depth (C t u) = suc (max (depth t) (depth u))
depth (W P t) = suc (depth t)
depth (S Q t) = suc (depth t)
depth (F R t) = suc (depth t)

-- no fact of R is named in an effect of a job of L, where the number k stands for the job `job k`
abbrev pub Untouched : (ℕ → Job) → State → List ℕ → Type 0
Untouched job R [] = Unit {0}
Untouched job R (k ∷ L) = Apart R (job k).effect × Untouched job R L

-- the tree gives the opening, the end and the list of jobs
pub data Derives (job : ℕ → Job) : Tree → State → State → List ℕ → Type 0 where
  -- nothing is done
  by_H : Derives job H nothing nothing []
  -- one job: from its precondition to that overridden by its effect
  by_A : (k : ℕ) → Derives job (A k) (job k).precondition (overridden (job k).precondition (job k).effect) (k ∷ [])
  -- one after the other: the first end covers the second opening
  by_C : {t u : Tree} {O₁ E₁ O₂ E₂ : State} {L₁ L₂ : List ℕ} → Derives job t O₁ E₁ L₁ → Derives job u O₂ E₂ L₂ → Covers E₁ O₂ → Derives job (C t u) O₁ E₂ (L₁ ++ L₂)
  -- the opening weakened to P, which covers it
  by_W : {t : Tree} {O E : State} {L : List ℕ} (P : State) → Derives job t O E L → Covers P O → Derives job (W P t) P E L
  -- the end shrunk to Q, which it covers
  by_S : {t : Tree} {O E : State} {L : List ℕ} (Q : State) → Derives job t O E L → Covers E Q → Derives job (S Q t) O Q L
  -- R framed: its facts are named neither at the ends nor in an effect between them
  by_F : {t : Tree} {O E : State} {L : List ℕ} (R : State) → Derives job t O E L → Apart R O → Apart R E → Untouched job R L → Derives job (F R t) (overridden O R) (overridden E R) L

-- an effect of a job of L names fact i
abbrev pub Touches : (ℕ → Job) → List ℕ → ℕ → Type 0
Touches job [] i = ⊥
Touches job (k ∷ L) i = Named (job k).effect i ⊎ Touches job L i
