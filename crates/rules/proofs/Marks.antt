-- What the rules do at one fact: p, q, e, r are marks, x is whether it holds.
use Rattle.std.proofs.Common.{◌≡◌, ℕ, Bool, true, false, ◌⊎◌, refl, ap, ◌∙◌, inl, inr, arith}
use Rattle.facts.specs.declared.mark.Mark.{Mark}
use Rattle.facts.specs.declared.mark.Mark.TheVariants.{Unnamed, Holds, Fails}
use Rattle.facts.specs.States.{State, mark, sign, named, over_one, less_one, without}
use Rattle.facts.specs.Worlds.{Job, set_one}
use Rattle.facts.proofs.Marks.{mark_less}
use Rattle.rules.specs.Written.{beside}

pub over_cases : (p e : Mark) (b : Bool) → over_one p e ≡ sign b → (e ≡ sign b) ⊎ (p ≡ sign b)
over_cases p Unnamed b h = inr h
over_cases p Holds b h = inl h
over_cases p Fails b h = inl h

pub apart_set : (r e : Mark) (x b : Bool) → (named r ≡ true → named e ≡ true → ⊥) → (r ≡ sign b → x ≡ b) → r ≡ sign b → set_one e x ≡ b
apart_set r e x b h k l = grind arith

pub apart_over : (p r : Mark) (b : Bool) → (named r ≡ true → named p ≡ true → ⊥) → p ≡ sign b → over_one p r ≡ sign b
apart_over p r b h k = grind arith

pub over_has : (p e : Mark) (b : Bool) → e ≡ sign b → over_one p e ≡ sign b
over_has p e b h = grind arith

pub over_named : (p e : Mark) → named (over_one p e) ≡ true → (named e ≡ true) ⊎ (named p ≡ true)
over_named p Unnamed h = inr h
over_named p Holds h = inl refl
over_named p Fails h = inl refl

pub named_over : (p e : Mark) → (named e ≡ true) ⊎ (named p ≡ true) → named (over_one p e) ≡ true
named_over p e h = grind arith

-- a mark that covers another is named where the other is
pub covers_named : (p q : Mark) → ((b : Bool) → q ≡ sign b → p ≡ sign b) → named q ≡ true → named p ≡ true
covers_named p q h k = grind (arith, h true, h false)

pub over_unnamed_first : (p : Mark) → over_one Unnamed p ≡ p
over_unnamed_first p = grind arith

-- of P beside a job: p the mark of P, q of the precondition, e of the effect
pub mark_beside : (P : State) (j : Job) (i : ℕ) → mark (beside P j) i ≡ less_one (less_one (mark P i) (mark j.precondition i)) (mark j.effect i)
mark_beside P j i = mark_less (without P j.precondition) j.effect i ∙ ap (λ m. less_one m (mark j.effect i)) (mark_less P j.precondition i)

pub beside_effect : (p q e : Mark) → named (less_one (less_one p q) e) ≡ true → named e ≡ true → ⊥
beside_effect p q e h k = grind arith

pub beside_named : (p q e : Mark) → named (less_one (less_one p q) e) ≡ true → named q ≡ true → ⊥
beside_named p q e h k = grind arith

pub beside_opens : (p q e : Mark) (b : Bool) → ((c : Bool) → q ≡ sign c → p ≡ sign c) → over_one q (less_one (less_one p q) e) ≡ sign b → p ≡ sign b
beside_opens p q e b h k = grind (arith, h true, h false)

pub beside_ends : (p q e : Mark) (b : Bool) → ((c : Bool) → q ≡ sign c → p ≡ sign c) → over_one p e ≡ sign b → over_one (over_one q e) (less_one (less_one p q) e) ≡ sign b
beside_ends p q e b h k = grind (arith, h true, h false)
