-- What goes fact by fact over states of 256 places.
use Rattle.std.proofs.Common.{◌≡◌, ℕ, zero, suc, ◌<◌, ◌≤◌, Bool, true, false, ◌&&◌, [], ◌∷◌, length, Decides, MatchBool, sym, refl, ap, ◌∙◌, ⊎_elim, arith}
use Rattle.std.proofs.lemmas.List.{ext_get_or, get_or_past}
use Rattle.std.proofs.lemmas.Bool.{both_ways, cases_lt}
use Rattle.std.proofs.lemmas.Bool.Decides.{Decides-like, same_from_decides}
use lib.Pointwise.{pointwise}
use Rattle.facts.specs.declared.mark.Mark.{Mark}
use Rattle.facts.specs.declared.mark.Mark.TheVariants.{Unnamed}
use Rattle.facts.specs.States.{State, mark, blend, every}
use Rattle.facts.specs.Worlds.{World, Meets, unmet, unmet_one}
use Rattle.facts.specs.Scans.{Everywhere, NotEverywhere, AllMet}
use Rattle.facts.proofs.Marks.{mark_unmet, sign_named, agrees_true, true_agrees}
use Rattle.facts.proofs.Tests.{every_at, at_every, named_below}
use Rattle.facts.proofs.Meanings.{length_unmet}

pub decides_when : {P : Type 0} (r : Bool) → MatchBool r P (P → ⊥) → Decides r P
decides_when true p = (λ _. p, λ _. refl)
decides_when false n = (λ h. absurd (both_ways true (sym h) refl), λ p. absurd (n p))

-- a state made of two
pub length_blend : (f : Mark → Mark → Mark) (P Q : State) → length P ≡ length Q → length (blend f P Q) ≡ length P
length_blend f [] [] h = refl
length_blend f [] (q ∷ qs) h = absurd (omega arith)
length_blend f (p ∷ ps) [] h = absurd (omega arith)
length_blend f (p ∷ ps) (q ∷ qs) h = ap suc (length_blend f ps qs (omega arith))

blend_at : (f : Mark → Mark → Mark) (P Q : State) (i : ℕ) → length P ≡ length Q → i < length P → mark (blend f P Q) i ≡ f (mark P i) (mark Q i)
blend_at f [] Q i h l = absurd (omega arith)
blend_at f (p ∷ ps) [] i h l = absurd (omega arith)
blend_at f (p ∷ ps) (q ∷ qs) zero h l = refl
blend_at f (p ∷ ps) (q ∷ qs) (suc i) h l = blend_at f ps qs i (omega arith) (omega arith)

pub blended_is : (f : Mark → Mark → Mark) (P Q R : State) → length P ≡ 256 → length Q ≡ 256 → length R ≡ 256 → ((i : ℕ) → i < 256 → mark R i ≡ f (mark P i) (mark Q i)) → R ≡ blend f P Q
blended_is f P Q R p q r h =
    ext_get_or Unnamed R (blend f P Q) (r ∙ sym (length_blend f P Q (p ∙ sym q) ∙ p)) (λ i l. h i (omega arith) ∙ sym (blend_at f P Q i (p ∙ sym q) (omega arith)))

-- a test of two states
module _ (f : Mark → Mark → Bool) (e : f Unnamed Unnamed ≡ true) (P Q : State) (p : length P ≡ 256) (q : length Q ≡ 256) where
  pub everywhere_decides : Decides (every f P Q) (Everywhere f P Q)
  everywhere_decides = (λ h i _. every_at f e P Q h i, λ h. at_every f e P Q (λ i. ⊎_elim (h i) (past i) (cases_lt i 256)))
    where
      past : (i : ℕ) → 256 ≤ i → f (mark P i) (mark Q i) ≡ true
      past i l = (λ d. f (get_or_past P i Unnamed (omega arith) d) (get_or_past Q i Unnamed (omega arith) d)) ∙ e

  pub every_is : (r : Bool) → MatchBool r (Everywhere f P Q) (NotEverywhere f P Q) → r ≡ every f P Q
  every_is true h = sym (everywhere_decides.1 h)
  every_is false (i, l, k) = same_from_decides false (every f P Q) (decides_when false (λ h. both_ways _ k (h i l))) everywhere_decides

-- what `==` of two rows answers, where E is what `==` of two marks does
pub pointwise_is : (f E : Mark → Mark → Bool) → ((p q : Mark) → E p q ≡ f p q) → (P Q : State) → length P ≡ length Q → pointwise E P Q ≡ every f P Q
pointwise_is f E e [] [] h = refl
pointwise_is f E e [] (q ∷ qs) h = absurd (omega arith)
pointwise_is f E e (p ∷ ps) [] h = absurd (omega arith)
pointwise_is f E e (p ∷ ps) (q ∷ qs) h = ap (λ t. t && pointwise E ps qs) (e p q) ∙ ap (λ t. f p q && t) (pointwise_is f E e ps qs (omega arith))

-- whether a world meets a state, and where it does not
pub meets_scan : (w : World) (s : State) (r : Bool) → length s ≡ 256 → MatchBool r (AllMet w s) (AllMet w s → ⊥) → Decides r (Meets w s)
meets_scan w s r l h =
    Decides-like r (λ h i b k. agrees_true (mark s i) (w i) b (h i (named_below s l i (sign_named (mark s i) b k))) k) (λ h i _. true_agrees (mark s i) (w i) (h i)) (decides_when r h)

pub picked_is : (w : World) (s R : State) → length s ≡ 256 → length R ≡ 256 → ((i : ℕ) → i < 256 → mark R i ≡ unmet_one (mark s i) (w i)) → R ≡ unmet w s
picked_is w s R l r h = ext_get_or Unnamed R (unmet w s) (r ∙ sym (length_unmet w s ∙ l)) (λ i m. h i (omega arith) ∙ sym (mark_unmet w s i))
