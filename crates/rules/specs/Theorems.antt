-- What holds of the six rules.
use Rattle.std.specs.Prelude.{◌≡◌, ℕ, ◌≤◌, true, ◌⊎◌, List, map, length}
use Rattle.facts.specs.States.{State, Named, Apart}
use Rattle.facts.specs.Worlds.{Job}
use Rattle.lists.specs.Lists.{fits, Good}
use Rattle.rules.specs.Rules.{Tree, depth, Derives, Untouched, Touches}
use Rattle.rules.specs.Written.{written}

-- what the rules derive, with at most 64 jobs, is good: it works in every world of any number of facts
abbrev pub Sound : Type 0
Sound = (job : ℕ → Job) (n : ℕ) (t : Tree) (O E : State) (L : List ℕ) → length L ≤ 64 → Derives job t O E L → Good n O E (map job L)

-- the written derivation of a good list, over facts below n, is one of its opening, goal and jobs
abbrev pub Complete : Type 0
Complete = (job : ℕ → Job) (n : ℕ) (O G : State) (L : List ℕ) → fits n O G (map job L) ≡ true → Good n O G (map job L) → Derives job (written job O G L) O G L

-- and it is at most 67 lines deep
abbrev pub Shallow : Type 0
Shallow = (job : ℕ → Job) (O G : State) (L : List ℕ) → length L ≤ 64 → depth (written job O G L) ≤ 67

-- a fact of the end is one of the opening or of an effect
abbrev pub Traced : Type 0
Traced = (job : ℕ → Job) (t : Tree) (O E : State) (L : List ℕ) → Derives job t O E L → (i : ℕ) → Named E i → Named O i ⊎ Touches job L i

-- so a frame whose facts are named neither in the opening nor in an effect does not meet the end
abbrev pub EndSpared : Type 0
EndSpared = (job : ℕ → Job) (t : Tree) (O E R : State) (L : List ℕ) → Derives job t O E L → Apart R O → Untouched job R L → Apart R E
