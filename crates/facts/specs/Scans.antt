-- What a scan of 256 facts finds, for the contracts and proofs of what goes fact by fact.
use Rattle.std.specs.Prelude.{◌≡◌, ℕ, ◌<◌, Bool, true, false}
use Rattle.facts.specs.declared.mark.Mark.{Mark}
use Rattle.facts.specs.States.{State, mark}
use Rattle.facts.specs.Worlds.{World, agrees}

-- each call of a closure of two marks gives what f says
abbrev pub Computes : {X : Type 0} → (Mark → Mark → X → Type 0) → (Mark → Mark → X) → Type 0
Computes {X} gives f = (p q : Mark) (x : X) → gives p q x → x ≡ f p q

-- P and Q pass the test f
abbrev pub Everywhere : (Mark → Mark → Bool) → State → State → Type 0
Everywhere f P Q = (i : ℕ) → i < 256 → f (mark P i) (mark Q i) ≡ true

-- the test f fails of P and Q at a fact
abbrev pub NotEverywhere : (Mark → Mark → Bool) → State → State → Type 0
NotEverywhere f P Q = (i : ℕ) × (i < 256) × (f (mark P i) (mark Q i) ≡ false)

-- each literal of s is true in w
abbrev pub AllMet : World → State → Type 0
AllMet w s = (i : ℕ) → i < 256 → agrees (mark s i) (w i) ≡ true
