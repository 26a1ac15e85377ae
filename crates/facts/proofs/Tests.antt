-- The computed tests say what they should.
use Rattle.std.proofs.Common.{◌≡◌, ℕ, zero, suc, ◌+◌, ◌-◌, ◌<◌, ◌≤◌, Bool, true, false, ◌⊎◌, [], ◌∷◌, length, drop, Some, None, Decides, Option, sym, refl, ap, ◌∙◌, inl, inr, arith}
use Rattle.std.proofs.lemmas.Bool.{and_parts, and_from, or_parts, or_from, not-true, not_from_false, both_ways, cases_lt, cases_order}
use Rattle.std.proofs.lemmas.List.{ext_get_or, get_or-drop, get_or_past}
use Rattle.facts.specs.declared.mark.Mark.{Mark}
use Rattle.facts.specs.declared.mark.Mark.TheVariants.{Unnamed}
use Rattle.facts.specs.States.{State, mark, named, Named, Covers, Apart, Within, every, covers_one, covers, same_one, same, apart_one, apart, any_named, within, here, lowest}
use Rattle.facts.specs.Worlds.{World, Meets, agrees, meets}
use Rattle.facts.specs.Words.{Lowest}
use Rattle.facts.proofs.Marks.{covers_true, true_covers, agrees_true, true_agrees, unnamed_not}

module _ (f : Mark → Mark → Bool) (e : f Unnamed Unnamed ≡ true) where
  pub every_at : (P Q : State) → every f P Q ≡ true → (i : ℕ) → f (mark P i) (mark Q i) ≡ true
  every_at [] [] h i = e
  every_at [] (q ∷ qs) h zero = (and_parts (f Unnamed q) (every f [] qs) h).0
  every_at [] (q ∷ qs) h (suc i) = every_at [] qs (and_parts (f Unnamed q) (every f [] qs) h).1 i
  every_at (p ∷ ps) [] h zero = (and_parts (f p Unnamed) (every f ps []) h).0
  every_at (p ∷ ps) [] h (suc i) = every_at ps [] (and_parts (f p Unnamed) (every f ps []) h).1 i
  every_at (p ∷ ps) (q ∷ qs) h zero = (and_parts (f p q) (every f ps qs) h).0
  every_at (p ∷ ps) (q ∷ qs) h (suc i) = every_at ps qs (and_parts (f p q) (every f ps qs) h).1 i

  pub at_every : (P Q : State) → ((i : ℕ) → f (mark P i) (mark Q i) ≡ true) → every f P Q ≡ true
  at_every [] [] h = refl
  at_every [] (q ∷ qs) h = and_from (f Unnamed q) (every f [] qs) (h 0) (at_every [] qs (λ i. h (suc i)))
  at_every (p ∷ ps) [] h = and_from (f p Unnamed) (every f ps []) (h 0) (at_every ps [] (λ i. h (suc i)))
  at_every (p ∷ ps) (q ∷ qs) h = and_from (f p q) (every f ps qs) (h 0) (at_every ps qs (λ i. h (suc i)))

pub covers_decides : (P Q : State) → Decides (covers P Q) (Covers P Q)
covers_decides P Q = (
  λ h i b. covers_true (mark P i) (mark Q i) b (every_at covers_one refl P Q h i),
  λ h. at_every covers_one refl P Q (λ i. true_covers (mark P i) (mark Q i) (h i)),
)

apart_true : (p q : Mark) → apart_one p q ≡ true → named p ≡ true → named q ≡ true → ⊥
apart_true p q h k l = grind arith

true_apart : (p q : Mark) → (named p ≡ true → named q ≡ true → ⊥) → apart_one p q ≡ true
true_apart p q h = grind arith

pub apart_decides : (P Q : State) → Decides (apart P Q) (Apart P Q)
apart_decides P Q = (
  λ h i. apart_true (mark P i) (mark Q i) (every_at apart_one refl P Q h i),
  λ h. at_every apart_one refl P Q (λ i. true_apart (mark P i) (mark Q i) (h i)),
)

same_true : (p q : Mark) → same_one p q ≡ true → p ≡ q
same_true p q h = grind arith

true_same : (p q : Mark) → p ≡ q → same_one p q ≡ true
true_same p q h = grind arith

pub same_decides : (P Q : State) → length P ≡ length Q → Decides (same P Q) (P ≡ Q)
same_decides P Q l = (
  λ h. ext_get_or Unnamed P Q l (λ i k. same_true (mark P i) (mark Q i) (every_at same_one refl P Q h i)),
  λ h. at_every same_one refl P Q (λ i. true_same (mark P i) (mark Q i) (ap (λ s. mark s i) h)),
)

-- no fact of a row is named
none_named : (s : State) → any_named s ≡ false → (i : ℕ) → named (mark s i) ≡ true → ⊥
none_named [] h i k = both_ways false refl k
none_named (m ∷ s) h zero k = both_ways (named m) (or_parts (named m) (any_named s) h).0 k
none_named (m ∷ s) h (suc i) k = none_named s (or_parts (named m) (any_named s) h).1 i k

named_none : (s : State) → ((i : ℕ) → named (mark s i) ≡ true → ⊥) → any_named s ≡ false
named_none [] h = refl
named_none (m ∷ s) h = or_from (named m) (any_named s) (unnamed (named m) (h 0)) (named_none s (λ i. h (suc i)))
  where
    unnamed : (t : Bool) → (t ≡ true → ⊥) → t ≡ false
    unnamed true k = absurd (k refl)
    unnamed false k = refl

pub within_decides : (n : ℕ) (s : State) → Decides (within n s) (Within n s)
within_decides n s = (yes, no)
  where
    below : any_named (drop n s) ≡ false → (i : ℕ) → Named s i → (i < n) ⊎ (n ≤ i) → i < n
    below h i k (inl l) = l
    below h i k (inr l) =
        let e : n + (i - n) ≡ i = omega arith in
        absurd (none_named (drop n s) h (i - n) (ap named (get_or-drop n s (i - n) Unnamed ∙ ap (mark s) e) ∙ k))

    yes : within n s ≡ true → Within n s
    yes h i k = below (not-true (any_named (drop n s)) h) i k (cases_lt i n)

    no : Within n s → within n s ≡ true
    no h = not_from_false (any_named (drop n s)) (named_none (drop n s) (λ i k. let l : n + i < n = h (n + i) (ap named (sym (get_or-drop n s i Unnamed)) ∙ k) in omega arith))

pub lowest_is : (s : State) → Lowest s (lowest s)
lowest_is [] = λ i h. both_ways false refl h
lowest_is (m ∷ s) = first m s (named m) refl (lowest s) (lowest_is s)
  where
    first : (m : Mark) (s : State) (t : Bool) → named m ≡ t → (o : Option ℕ) → Lowest s o → Lowest (m ∷ s) (here t o)
    first m s true e o l = (e, λ k h. absurd (omega arith))
    first m s false e None l = none
      where
        none : (i : ℕ) → Named (m ∷ s) i → ⊥
        none zero h = both_ways (named m) e h
        none (suc i) h = l i h
    first m s false e (Some i) l = (l.0, below)
      where
        below : (k : ℕ) → k < suc i → Named (m ∷ s) k → ⊥
        below zero h j = both_ways (named m) e j
        below (suc k) h j = l.1 k (omega arith) j

-- there is one lowest fact
pub lowest_only : (s : State) (o p : Option ℕ) → Lowest s o → Lowest s p → o ≡ p
lowest_only s None None h k = refl
lowest_only s None (Some j) h k = absurd (h j k.0)
lowest_only s (Some i) None h k = absurd (k i h.0)
lowest_only s (Some i) (Some j) h k = ap Some (go (cases_order i j))
  where
    go : (i ≡ j) ⊎ ((i < j) ⊎ (j < i)) → i ≡ j
    go (inl e) = e
    go (inr (inl l)) = absurd (k.1 i l h.0)
    go (inr (inr l)) = absurd (h.1 j l k.0)

met_each : (w : World) (s : State) → meets w s ≡ true → (i : ℕ) → agrees (mark s i) (w i) ≡ true
met_each w [] h i = refl
met_each w (m ∷ s) h zero = (and_parts (agrees m (w 0)) (meets (λ k. w (suc k)) s) h).0
met_each w (m ∷ s) h (suc i) = met_each (λ k. w (suc k)) s (and_parts (agrees m (w 0)) (meets (λ k. w (suc k)) s) h).1 i

met_all : (w : World) (s : State) → ((i : ℕ) → agrees (mark s i) (w i) ≡ true) → meets w s ≡ true
met_all w [] h = refl
met_all w (m ∷ s) h = and_from (agrees m (w 0)) (meets (λ k. w (suc k)) s) (h 0) (met_all (λ k. w (suc k)) s (λ i. h (suc i)))

pub meets_decides : (w : World) (s : State) → Decides (meets w s) (Meets w s)
meets_decides w s = (
  λ h i b. agrees_true (mark s i) (w i) b (met_each w s h i),
  λ h. met_all w s (λ i. true_agrees (mark s i) (w i) (h i)),
)

-- a state of 256 places names facts below 256
pub named_below : (s : State) → length s ≡ 256 → (i : ℕ) → Named s i → i < 256
named_below s l i h = go (cases_lt i 256)
  where
    go : (i < 256) ⊎ (256 ≤ i) → i < 256
    go (inl k) = k
    go (inr k) = absurd (unnamed_not (mark s i) (get_or_past s i Unnamed (omega arith)) h)
