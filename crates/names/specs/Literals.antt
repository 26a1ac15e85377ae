-- State fields: literals parted by one space, or "." for the empty state.
use Rattle.std.specs.Prelude.{ℕ, Bool, true, false, cond, List, [], ◌∷◌, Some, None, Ok, Option, Result, ◌==◌}
use Rattle.facts.specs.declared.state.LiteralFault.{LiteralFault}
use Rattle.facts.specs.declared.state.LiteralFault.TheVariants.{FactPast, FactNamed}
use Rattle.facts.specs.States.{State, nothing, added}
use Rattle.text.specs.declared.fault.Place.{Place}
use Rattle.text.specs.declared.fault.TextFault.{TextFault}
use Rattle.text.specs.declared.fault.TextFault.TheVariants.{NoSign, UnknownName, FactTwice}
use Rattle.text.specs.Chains.{then, then_in, or_else}
use Rattle.text.specs.Lines.{parts}
use Rattle.names.specs.Names.{same_name, found_at, name_field}

-- the sign of a literal: + is true, - is false
abbrev pub sign_of : List ℕ → Option Bool
sign_of [] = None
sign_of (b ∷ s) = cond (b == 43) (Some true) (cond (b == 45) (Some false) None)

abbrev pub unsigned : Option Bool → List ℕ → List ℕ
unsigned None l = l
unsigned (Some x) [] = []
unsigned (Some x) (b ∷ s) = s

-- the name of a literal: the literal without its sign, if it has one
abbrev pub name_of : List ℕ → List ℕ
name_of l = unsigned (sign_of l) l

-- a literal that was not added
abbrev pub not_added : Place → LiteralFault → TextFault
not_added at FactNamed = FactTwice at
not_added at FactPast = UnknownName at

-- one literal more, of the facts of these names: its name, its sign, its fact, and that the fact is not named yet
abbrev pub literal : List (List ℕ) → Place → List ℕ → State → Result State TextFault
literal facts at l s =
    then (name_field (name_of l) at) (λ n.
    or_else (sign_of l) (NoSign at) (λ b.
    or_else (found_at n facts) (UnknownName at) (λ i.
    then_in (not_added at) (added s i b) (λ t. Ok t))))

-- literals in turn
abbrev pub literals : List (List ℕ) → Place → List (List ℕ) → State → Result State TextFault
literals facts at [] s = Ok s
literals facts at (l ∷ ls) s = then (literal facts at l s) (λ t. literals facts at ls t)

abbrev pub parted : Bool → List (List ℕ) → Place → List ℕ → Result State TextFault
parted true facts at f = Ok nothing
parted false facts at f = literals facts at (parts 32 f) nothing

-- the state in a field
abbrev pub state_field : List (List ℕ) → Place → List ℕ → Result State TextFault
state_field facts at f = parted (same_name f (46 ∷ [])) facts at f
