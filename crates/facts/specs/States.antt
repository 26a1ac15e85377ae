-- Facts, literals and states, and what is computed of them.
use Rattle.std.specs.Prelude.{◌≡◌, ℕ, suc, ◌<◌, Bool, true, false, cond, not, ◌&&◌, ◌||◌, List, [], ◌∷◌, drop, replicate, Some, None, Ok, Err, Option, Result, nat_le, slice_index_or, slice_set}
use Rattle.facts.specs.declared.mark.Mark.{Mark}
use Rattle.facts.specs.declared.mark.Mark.TheVariants.{Unnamed, Holds, Fails}
use Rattle.facts.specs.declared.state.LiteralFault.{LiteralFault}
use Rattle.facts.specs.declared.state.LiteralFault.TheVariants.{FactPast, FactNamed}

-- a state: the mark of fact 0, of fact 1, ..; a fact past its end is not named
abbrev pub State : Type 0
State = List Mark

abbrev pub mark : State → ℕ → Mark
mark s i = slice_index_or s i Unnamed

-- the mark of the literal + (true: the fact holds) or - (false: it does not)
abbrev pub sign : Bool → Mark
sign true = Holds
sign false = Fails

-- the literal of fact i with sign b is in s
abbrev pub Has : State → ℕ → Bool → Type 0
Has s i b = mark s i ≡ sign b

abbrev pub named : Mark → Bool
named Unnamed = false
named Holds = true
named Fails = true

-- s has a literal of fact i
abbrev pub Named : State → ℕ → Type 0
Named s i = named (mark s i) ≡ true

-- each literal of Q is in P
abbrev pub Covers : State → State → Type 0
Covers P Q = (i : ℕ) (b : Bool) → Has Q i b → Has P i b

-- no fact is named in both
abbrev pub Apart : State → State → Type 0
Apart P Q = (i : ℕ) → Named P i → Named Q i → ⊥

-- only facts below n are named
abbrev pub Within : ℕ → State → Type 0
Within n s = (i : ℕ) → Named s i → i < n

-- the state of no literals, in 256 places
abbrev pub nothing : State
nothing = replicate 256 Unnamed

-- a state made of two, fact by fact
abbrev pub blend : (Mark → Mark → Mark) → State → State → State
blend f [] [] = []
blend f [] (q ∷ qs) = f Unnamed q ∷ blend f [] qs
blend f (p ∷ ps) [] = f p Unnamed ∷ blend f ps []
blend f (p ∷ ps) (q ∷ qs) = f p q ∷ blend f ps qs

abbrev pub over_one : Mark → Mark → Mark
over_one p Unnamed = p
over_one p Holds = Holds
over_one p Fails = Fails

-- the literals of E, and those of P whose fact E does not name
abbrev pub overridden : State → State → State
overridden P E = blend over_one P E

abbrev pub less_one : Mark → Mark → Mark
less_one p Unnamed = p
less_one p Holds = Unnamed
less_one p Fails = Unnamed

-- the literals of P whose fact Q does not name
abbrev pub without : State → State → State
without P Q = blend less_one P Q

abbrev pub missing_one : Mark → Mark → Mark
missing_one p Unnamed = Unnamed
missing_one Unnamed Holds = Holds
missing_one Holds Holds = Unnamed
missing_one Fails Holds = Holds
missing_one Unnamed Fails = Fails
missing_one Holds Fails = Fails
missing_one Fails Fails = Unnamed

-- the literals of Q that P lacks
abbrev pub missing : State → State → State
missing P Q = blend missing_one P Q

-- a test of two states, fact by fact
abbrev pub every : (Mark → Mark → Bool) → State → State → Bool
every f [] [] = true
every f [] (q ∷ qs) = f Unnamed q && every f [] qs
every f (p ∷ ps) [] = f p Unnamed && every f ps []
every f (p ∷ ps) (q ∷ qs) = f p q && every f ps qs

abbrev pub covers_one : Mark → Mark → Bool
covers_one p Unnamed = true
covers_one Unnamed Holds = false
covers_one Holds Holds = true
covers_one Fails Holds = false
covers_one Unnamed Fails = false
covers_one Holds Fails = false
covers_one Fails Fails = true

-- whether P covers Q
abbrev pub covers : State → State → Bool
covers P Q = every covers_one P Q

abbrev pub same_one : Mark → Mark → Bool
same_one p q = covers_one p q && covers_one q p

-- whether P and Q have the same literals
abbrev pub same : State → State → Bool
same P Q = every same_one P Q

abbrev pub apart_one : Mark → Mark → Bool
apart_one p q = not (named p && named q)

-- whether no fact is named in both
abbrev pub apart : State → State → Bool
apart P Q = every apart_one P Q

abbrev pub any_named : State → Bool
any_named [] = false
any_named (m ∷ s) = named m || any_named s

-- whether s names only facts below n
abbrev pub within : ℕ → State → Bool
within n s = not (any_named (drop n s))

abbrev pub here : Bool → Option ℕ → Option ℕ
here true o = Some 0
here false None = None
here false (Some i) = Some (suc i)

-- the lowest fact that s names
abbrev pub lowest : State → Option ℕ
lowest [] = None
lowest (m ∷ s) = here (named m) (lowest s)

-- s with the literal of fact i and sign b: refused for a fact past 255, then for one that s names
abbrev pub added : State → ℕ → Bool → Result State LiteralFault
added s i b = cond (nat_le 256 i) (Err FactPast) (cond (named (mark s i)) (Err FactNamed) (Ok (slice_set s i (sign b))))
