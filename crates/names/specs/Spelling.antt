-- How states are spelt: as literals in any order.
use Rattle.std.specs.Prelude.{◌≡◌, ℕ, ◌<◌, ◌≤◌, Bool, true, false, ◌⊎◌, List, [], ◌∷◌, map, length, Ok, Result, slice_index_or, slice_set}
use Rattle.facts.specs.declared.mark.Mark.TheVariants.{Unnamed}
use Rattle.facts.specs.States.{State, mark, sign, nothing}
use Rattle.facts.specs.Words.{Exactly}
use Rattle.text.specs.declared.fault.TextFault.{TextFault}
use Rattle.text.specs.Spelling.{join}
use Rattle.names.specs.Names.{proper_names}

-- a literal: the number of its fact, and its sign
abbrev pub Literal : Type 0
Literal = ℕ × Bool

abbrev pub sign_byte : Bool → ℕ
sign_byte true = 43
sign_byte false = 45

-- the sign directly before the name
abbrev pub spell : List (List ℕ) → Literal → List ℕ
spell facts l = sign_byte l.1 ∷ slice_index_or facts l.0 []

-- t is s with these literals, each of a fact below n that was not named before it
abbrev pub Adds : ℕ → State → List Literal → State → Type 0
Adds n s [] t = t ≡ s
Adds n s (l ∷ ls) t = (l.0 < n) × (mark s l.0 ≡ Unnamed) × Adds n (slice_set s l.0 (sign l.1)) ls t

-- one literal or more, in any order, parted by one space
pub record Spelt (facts : List (List ℕ)) (f : List ℕ) (s : State) : Type 0 where
  pub first : Literal
  pub rest : List Literal
  pub field : f ≡ join 32 (map (spell facts) (first ∷ rest))
  pub adds : Adds (length facts) nothing (first ∷ rest) s

-- the field f spells the state s over facts of these names: "." is the empty state
abbrev pub Denotes : List (List ℕ) → List ℕ → State → Type 0
Denotes facts f s = ((f ≡ 46 ∷ []) × (s ≡ nothing)) ⊎ Spelt facts f s

-- over well formed, distinct names of at most 256 facts, a state is read exactly when the field spells it
abbrev pub SpellsExactly : List (List ℕ) → List ℕ → Result State TextFault → Type 0
SpellsExactly facts f r = proper_names facts ≡ true → length facts ≤ 256 → (s : State) → Exactly (r ≡ Ok s) (Denotes facts f s)
