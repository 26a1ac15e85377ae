-- What the text of a slip looks like, and which slips are accepted.
use Rattle.std.specs.Prelude.{◌≡◌, ℕ, ◌<◌, ◌≤◌, List, [], ◌∷◌, ◌++◌, length, Ok, Result, slice_index_or}
use Rattle.facts.specs.States.{State}
use Rattle.facts.specs.Words.{Exactly}
use Rattle.rules.specs.Rules.{Tree, depth, Derives}
use Rattle.rules.specs.Rules.Tree.{H, A, C, W, S, F}
use Rattle.text.specs.Spelling.{join, closed}
use Rattle.names.specs.Spelling.{Denotes}
use Rattle.table.specs.Rows.{job_names}
use Rattle.table.specs.Tables.{Table}
use Rattle.table.specs.Jobs.{job_at}
use Rattle.verdict.specs.declared.fault.SlipFault.{SlipFault}
use Rattle.verdict.specs.Verdicts.{Plan, plan_from}

-- a tag alone, and a tag with one field
abbrev pub bare : ℕ → List ℕ
bare b = b ∷ []

abbrev pub tagged : ℕ → List ℕ → List ℕ
tagged b f = join 9 (bare b ∷ f ∷ [])

-- the name of job k
abbrev pub job_name : Table → ℕ → List ℕ
job_name t k = slice_index_or (job_names t.jobs) k []

-- a line of this tag, whose field spells the state, and then the lines of the premise
pub record Stated (t : Table) (b : ℕ) (P : State) (Premise : List (List ℕ) → Type 0) (ls : List (List ℕ)) : Type 0 where
  pub field : List ℕ
  pub rest : List (List ℕ)
  pub lines : ls ≡ tagged b field ∷ rest
  pub state : Denotes t.facts field P
  pub premise : Premise rest

-- a line C, and then the lines of the first premise and of the second
pub record Paired (First Second : List (List ℕ) → Type 0) (ls : List (List ℕ)) : Type 0 where
  pub left : List (List ℕ)
  pub right : List (List ℕ)
  pub lines : ls ≡ bare 67 ∷ (left ++ right)
  pub first : First left
  pub second : Second right

-- the lines of a derivation, each rule line before its premises; the literals of a state stand in any order
abbrev pub SpeltLines : Table → Tree → List (List ℕ) → Type 0
SpeltLines t H ls = ls ≡ bare 72 ∷ []
SpeltLines t (A k) ls = (k < length t.jobs) × (ls ≡ tagged 65 (job_name t k) ∷ [])
SpeltLines t (C x y) ls = Paired (SpeltLines t x) (SpeltLines t y) ls
SpeltLines t (W P x) ls = Stated t 87 P (SpeltLines t x) ls
SpeltLines t (S Q x) ls = Stated t 83 Q (SpeltLines t x) ls
SpeltLines t (F R x) ls = Stated t 70 R (SpeltLines t x) ls

-- s is a slip of the opening O, the goal G and the jobs L, by their numbers: its lines are those of O, G and a
-- derivation within the limits, and the six rules make that one of O, G and L
pub record SlipOf (t : Table) (s : List ℕ) (O G : State) (L : List ℕ) : Type 0 where
  pub short : length s ≤ 1048576
  pub first : List ℕ
  pub second : List ℕ
  pub tree : Tree
  pub rest : List (List ℕ)
  pub lines : s ≡ closed (tagged 66 first ∷ tagged 71 second ∷ rest)
  pub opening : Denotes t.facts first O
  pub goal : Denotes t.facts second G
  pub spelt : SpeltLines t tree rest
  pub shallow : depth tree ≤ 80
  pub few : length L ≤ 64
  pub derives : Derives (job_at t) tree O G L

-- a plan is accepted exactly when the text is a slip of its opening, goal and jobs
abbrev pub AcceptsExactly : Table → List ℕ → Result Plan SlipFault → Type 0
AcceptsExactly t s r = (O G : State) (L : List ℕ) → Exactly (r ≡ Ok (plan_from t O G L)) (SlipOf t s O G L)
