-- What the computed definitions mean, literal by literal: each statement stands on the contract of a call.
use Rattle.std.specs.Prelude.{◌≡◌, ℕ, ◌<◌, Bool, ◌⊎◌, Some, None, Ok, Err, Option, Result, ◌≢◌}
use Rattle.facts.specs.States.{State, Has, Named}
use Rattle.facts.specs.Worlds.{World}

abbrev pub Exactly : Type 0 → Type 0 → Type 0
Exactly P Q = (P → Q) × (Q → P)

-- no fact is named
abbrev pub Empty : State → Type 0
Empty R = (i : ℕ) → Named R i → ⊥

-- R has the literals of E, and those of P whose fact E does not name
abbrev pub Overridden : State → State → State → Type 0
Overridden P E R = (i : ℕ) (b : Bool) → Exactly (Has R i b) (Has E i b ⊎ (Has P i b × (Named E i → ⊥)))

-- R has the literals of P whose fact Q does not name
abbrev pub Without : State → State → State → Type 0
Without P Q R = (i : ℕ) (b : Bool) → Exactly (Has R i b) (Has P i b × (Named Q i → ⊥))

-- R has the literals of Q that P lacks
abbrev pub Missing : State → State → State → Type 0
Missing P Q R = (i : ℕ) (b : Bool) → Exactly (Has R i b) (Has Q i b × (Has P i b → ⊥))

-- R has the literals of s that are not true in w
abbrev pub Unmet : World → State → State → Type 0
Unmet w s R = (i : ℕ) (b : Bool) → Exactly (Has R i b) (Has s i b × (w i ≢ b))

-- R has the literals of P and the one of fact i and sign b
abbrev pub OneMore : State → ℕ → Bool → State → Type 0
OneMore P i b R = (k : ℕ) (c : Bool) → Exactly (Has R k c) (Has P k c ⊎ ((k ≡ i) × (c ≡ b)))

-- the answer is the lowest fact that s names, and none where it names none
abbrev pub Lowest : State → Option ℕ → Type 0
Lowest s None = Empty s
Lowest s (Some i) = Named s i × ((k : ℕ) → k < i → Named s k → ⊥)

-- v is w with exactly the facts of E set
pub record Sets (E : State) (w v : World) : Type 0 where
  pub as_named : (i : ℕ) (b : Bool) → Has E i b → v i ≡ b
  pub others : (i : ℕ) → (Named E i → ⊥) → v i ≡ w i

-- P where the call answers Ok
abbrev pub WhereOk : {X Y : Type 0} → Result X Y → Type 0 → Type 0
WhereOk (Ok x) P = P
WhereOk (Err e) P = Unit {0}
