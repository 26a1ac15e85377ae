-- The slip that is written for a list.
use Rattle.std.specs.Prelude.{ℕ, ◌+◌, true, false, List, [], ◌∷◌, ◌++◌, map}
use Rattle.facts.specs.declared.mark.Mark.TheVariants.{Unnamed, Holds, Fails}
use Rattle.facts.specs.States.{State}
use Rattle.rules.specs.Rules.{Tree}
use Rattle.rules.specs.Rules.Tree.{H, A, C, W, S, F}
use Rattle.rules.specs.Written.{written}
use Rattle.text.specs.Spelling.{join, closed}
use Rattle.names.specs.Spelling.{Literal, spell}
use Rattle.table.specs.Tables.{Table}
use Rattle.table.specs.Jobs.{job_at}
use Rattle.verdict.specs.Grammar.{bare, tagged, job_name}

-- the literals of a state in rising fact number, where its first mark is of fact i
abbrev pub literals_from : ℕ → State → List Literal
literals_from i [] = []
literals_from i (Unnamed ∷ s) = literals_from (i + 1) s
literals_from i (Holds ∷ s) = (i, true) ∷ literals_from (i + 1) s
literals_from i (Fails ∷ s) = (i, false) ∷ literals_from (i + 1) s

abbrev pub literals_text : List (List ℕ) → List Literal → List ℕ
literals_text facts [] = 46 ∷ []
literals_text facts (l ∷ ls) = join 32 (map (spell facts) (l ∷ ls))

abbrev pub state_text : List (List ℕ) → State → List ℕ
state_text facts s = literals_text facts (literals_from 0 s)

abbrev pub tree_lines : Table → Tree → List (List ℕ)
tree_lines t H = bare 72 ∷ []
tree_lines t (A k) = tagged 65 (job_name t k) ∷ []
tree_lines t (C x y) = bare 67 ∷ (tree_lines t x ++ tree_lines t y)
tree_lines t (W P x) = tagged 87 (state_text t.facts P) ∷ tree_lines t x
tree_lines t (S Q x) = tagged 83 (state_text t.facts Q) ∷ tree_lines t x
tree_lines t (F R x) = tagged 70 (state_text t.facts R) ∷ tree_lines t x

-- the lines B and G, then the written derivation
abbrev pub slip_lines : Table → State → State → List ℕ → List (List ℕ)
slip_lines t O G L = tagged 66 (state_text t.facts O) ∷ tagged 71 (state_text t.facts G) ∷ tree_lines t (written (job_at t) O G L)

abbrev pub slip_text : Table → State → State → List ℕ → List ℕ
slip_text t O G L = closed (slip_lines t O G L)
