-- What the operations on states and worlds do at one fact.
use Rattle.std.proofs.Common.{◌≡◌, ℕ, zero, suc, Bool, true, false, not, ◌⊎◌, [], ◌∷◌, get_or, replicate, sym, refl, inl, inr, arith}
use Rattle.facts.specs.declared.mark.Mark.{Mark}
use Rattle.facts.specs.declared.mark.Mark.TheVariants.{Unnamed, Holds, Fails}
use Rattle.facts.specs.States.{State, mark, nothing, sign, named, blend, over_one, overridden, less_one, without, missing_one, missing, covers_one}
use Rattle.facts.specs.Worlds.{World, agrees, unmet_one, unmet, set_one}

pub mark_blend : (f : Mark → Mark → Mark) → f Unnamed Unnamed ≡ Unnamed → (P Q : State) (i : ℕ) → mark (blend f P Q) i ≡ f (mark P i) (mark Q i)
mark_blend f e [] [] i = sym e
mark_blend f e [] (q ∷ qs) zero = refl
mark_blend f e [] (q ∷ qs) (suc i) = mark_blend f e [] qs i
mark_blend f e (p ∷ ps) [] zero = refl
mark_blend f e (p ∷ ps) [] (suc i) = mark_blend f e ps [] i
mark_blend f e (p ∷ ps) (q ∷ qs) zero = refl
mark_blend f e (p ∷ ps) (q ∷ qs) (suc i) = mark_blend f e ps qs i

pub mark_over : (P E : State) (i : ℕ) → mark (overridden P E) i ≡ over_one (mark P i) (mark E i)
mark_over P E i = mark_blend over_one refl P E i

pub mark_less : (P Q : State) (i : ℕ) → mark (without P Q) i ≡ less_one (mark P i) (mark Q i)
mark_less P Q i = mark_blend less_one refl P Q i

pub mark_missing : (P Q : State) (i : ℕ) → mark (missing P Q) i ≡ missing_one (mark P i) (mark Q i)
mark_missing P Q i = mark_blend missing_one refl P Q i

pub mark_unmet : (w : World) (s : State) (i : ℕ) → mark (unmet w s) i ≡ unmet_one (mark s i) (w i)
mark_unmet w [] i = refl
mark_unmet w (m ∷ s) zero = refl
mark_unmet w (m ∷ s) (suc i) = mark_unmet (λ k. w (suc k)) s i

-- what stands everywhere is read everywhere, and past the end too
pub get_or_everywhere : {X : Type 0} (n i : ℕ) (x : X) → get_or (replicate n x) i x ≡ x
get_or_everywhere zero i x = refl
get_or_everywhere (suc n) zero x = refl
get_or_everywhere (suc n) (suc i) x = get_or_everywhere n i x

pub mark_nothing : (i : ℕ) → mark nothing i ≡ Unnamed
mark_nothing i = get_or_everywhere 256 i Unnamed

-- what follows is at one fact: p, q, e, o are marks, x is whether it holds
pub sign_named : (p : Mark) (b : Bool) → p ≡ sign b → named p ≡ true
sign_named p b h = grind arith

pub not_named : (p : Mark) → (named p ≡ true → ⊥) → p ≡ Unnamed
not_named p h = grind arith

pub unnamed_not : (p : Mark) → p ≡ Unnamed → named p ≡ true → ⊥
unnamed_not p h k = grind arith

pub sign_same : (b c : Bool) → sign b ≡ sign c → b ≡ c
sign_same b c h = grind arith

pub mark_cases : (p : Mark) → (p ≡ Unnamed) ⊎ ((b : Bool) × (p ≡ sign b))
mark_cases Unnamed = inl refl
mark_cases Holds = inr (true, refl)
mark_cases Fails = inr (false, refl)

pub not_same : (b : Bool) → not b ≡ b → ⊥
not_same true h = grind arith
not_same false h = grind arith

-- a literal of p overridden by e
pub over_says : (p e : Mark) (b : Bool) → over_one p e ≡ sign b → (e ≡ sign b) ⊎ ((p ≡ sign b) × (named e ≡ true → ⊥))
over_says p e b h = grind arith

pub says_over : (p e : Mark) (b : Bool) → (e ≡ sign b) ⊎ ((p ≡ sign b) × (named e ≡ true → ⊥)) → over_one p e ≡ sign b
says_over p e b h = grind arith

pub over_unnamed : (p e : Mark) → over_one p e ≡ Unnamed → (p ≡ Unnamed) × (e ≡ Unnamed)
over_unnamed p e h = grind arith

-- a world that meets p meets p overridden by e once e is set
pub over_sets : (p e : Mark) (x b : Bool) → (p ≡ sign b → x ≡ b) → over_one p e ≡ sign b → set_one e x ≡ b
over_sets p e x b h k = grind arith

pub less_says : (p q : Mark) (b : Bool) → less_one p q ≡ sign b → (p ≡ sign b) × (named q ≡ true → ⊥)
less_says p q b h = grind arith

pub says_less : (p q : Mark) (b : Bool) → (p ≡ sign b) × (named q ≡ true → ⊥) → less_one p q ≡ sign b
says_less p q b h = grind arith

pub missing_says : (p q : Mark) (b : Bool) → missing_one p q ≡ sign b → (q ≡ sign b) × (p ≡ sign b → ⊥)
missing_says p q b h = grind arith

pub says_missing : (p q : Mark) (b : Bool) → (q ≡ sign b) × (p ≡ sign b → ⊥) → missing_one p q ≡ sign b
says_missing p q b h = grind arith

pub missing_none : (p q : Mark) (b : Bool) → (named (missing_one p q) ≡ true → ⊥) → q ≡ sign b → p ≡ sign b
missing_none p q b h k = grind arith

pub missing_some : (p q : Mark) → named (missing_one p q) ≡ true → (b : Bool) × (q ≡ sign b) × ((p ≡ Unnamed) ⊎ (p ≡ sign (not b)))
missing_some p Unnamed h = let z : ◌≡◌ {A = ℕ} 0 1 = cc in absurd (omega arith)
missing_some Unnamed Holds h = (true, refl, inl refl)
missing_some Unnamed Fails h = (false, refl, inl refl)
missing_some Holds Holds h = let z : ◌≡◌ {A = ℕ} 0 1 = cc in absurd (omega arith)
missing_some Holds Fails h = (false, refl, inr refl)
missing_some Fails Holds h = (true, refl, inr refl)
missing_some Fails Fails h = let z : ◌≡◌ {A = ℕ} 0 1 = cc in absurd (omega arith)

-- a literal and a fact that is as x says
pub agrees_true : (p : Mark) (x b : Bool) → agrees p x ≡ true → p ≡ sign b → x ≡ b
agrees_true p x b h k = grind arith

pub true_agrees : (p : Mark) (x : Bool) → ((b : Bool) → p ≡ sign b → x ≡ b) → agrees p x ≡ true
true_agrees p x h = grind (arith, h true, h false)

pub unmet_says : (p : Mark) (x b : Bool) → unmet_one p x ≡ sign b → (p ≡ sign b) × (x ≡ b → ⊥)
unmet_says p x b h = grind arith

pub says_unmet : (p : Mark) (x b : Bool) → (p ≡ sign b) × (x ≡ b → ⊥) → unmet_one p x ≡ sign b
says_unmet p x b h = grind arith

-- a fact set by a mark
pub set_named : (e : Mark) (x b : Bool) → e ≡ sign b → set_one e x ≡ b
set_named e x b h = grind arith

pub set_unnamed : (e : Mark) (x : Bool) → e ≡ Unnamed → set_one e x ≡ x
set_unnamed e x h = grind arith

-- covering
pub covers_true : (p q : Mark) (b : Bool) → covers_one p q ≡ true → q ≡ sign b → p ≡ sign b
covers_true p q b h k = grind arith

pub true_covers : (p q : Mark) → ((b : Bool) → q ≡ sign b → p ≡ sign b) → covers_one p q ≡ true
true_covers p q h = grind (arith, h true, h false)
