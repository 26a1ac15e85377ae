-- The example world: it is one, it is the only one, and the state is not met there.
use Rattle.std.proofs.Common.{◌≡◌, ℕ, ◌<◌, Bool, true, false, not, ◌&&◌, eqb, ◌⊎◌, List, Some, sym, refl, ap, ◌∙◌, inl, inr, arith}
use Rattle.std.proofs.lemmas.Bool.{eq-eqb, ne_eqb, cases_order, cases_eq}
use Rattle.facts.specs.declared.mark.Mark.{Mark}
use Rattle.facts.specs.declared.mark.Mark.TheVariants.{Unnamed}
use Rattle.facts.specs.States.{State, mark, named, sign, Has, Named, Within, missing}
use Rattle.facts.specs.Worlds.{World, Job, Sized, Meets, set_one}
use Rattle.facts.specs.Words.{Lowest}
use Rattle.facts.proofs.Marks.{mark_missing, missing_some, sign_named, not_named, unnamed_not, sign_same, mark_cases, not_same, set_named}
use Rattle.lists.specs.Lists.{ran}
use Rattle.lists.specs.Failures.{opposite, example, Example, Shows}
use Rattle.lists.proofs.Passing.{after, has_below, meets_after, same_after}

opposite_is : (q : Mark) (b : Bool) → q ≡ sign b → opposite q ≡ not b
opposite_is q b h = grind arith

-- the opening set over one fact: o is the mark of the opening, t whether it is that fact, y what that is
set_this : (o : Mark) (t y : Bool) → o ≡ Unnamed → t ≡ true → set_one o (t && y) ≡ y
set_this o t y h k = grind arith

set_other : (o : Mark) (t y : Bool) → o ≡ Unnamed → t ≡ false → set_one o (t && y) ≡ false
set_other o t y h k = grind arith

-- there is one example world
module _ (n : ℕ) (O : State) (L : List Job) (Q : State) (w v : World) (a : Example n O L Q w) (b : Example n O L Q v) where
  same_fact : a.fact ≡ b.fact
  same_fact = go (cases_order a.fact b.fact)
    where
      go : (a.fact ≡ b.fact) ⊎ ((a.fact < b.fact) ⊎ (b.fact < a.fact)) → a.fact ≡ b.fact
      go (inl e) = e
      go (inr (inl h)) = absurd (b.first a.fact a.plus h a.literal a.fails)
      go (inr (inr h)) = absurd (a.first b.fact b.plus h b.literal b.fails)

  same_plus : a.plus ≡ b.plus
  same_plus = sign_same a.plus b.plus (sym a.literal ∙ ap (mark Q) same_fact ∙ b.literal)

  same_at : (i : ℕ) → w i ≡ v i
  same_at i = go (mark_cases (mark O i)) (cases_eq i a.fact)
    where
      go : (mark O i ≡ Unnamed) ⊎ ((c : Bool) × (mark O i ≡ sign c)) → (i ≡ a.fact) ⊎ (i ≡ a.fact → ⊥) → w i ≡ v i
      go (inr h) d = a.as_named i h.0 h.1 ∙ sym (b.as_named i h.0 h.1)
      go (inl u) (inl e) =
          let f : i ≡ b.fact = e ∙ same_fact in
          ap w e
          ∙ a.turned (unnamed_not (mark O a.fact) (sym (ap (mark O) e) ∙ u))
          ∙ ap not same_plus
          ∙ sym (b.turned (unnamed_not (mark O b.fact) (sym (ap (mark O) f) ∙ u)))
          ∙ sym (ap v f)
      go (inl u) (inr d) = a.others i (unnamed_not (mark O i) u) d ∙ sym (b.others i (unnamed_not (mark O i) u) (λ e. d (e ∙ sym same_fact)))

-- the example of a state Q that the state after the jobs L lacks first at fact i
module _ (n : ℕ) (O : State) (L : List Job) (Q : State) (i : ℕ) (x : Bool) (small : Within n O) (little : Within n Q) (low : Lowest (missing (after O L) Q) (Some i)) (turned : x ≡ opposite (mark Q i)) where
  lacks : (b : Bool) × Has Q i b × ((mark (after O L) i ≡ Unnamed) ⊎ (mark (after O L) i ≡ sign (not b)))
  lacks = missing_some (mark (after O L) i) (mark Q i) (sym (ap named (mark_missing (after O L) Q i)) ∙ low.0)

  pub below_size : i < n
  below_size = little i (sign_named (mark Q i) lacks.0 lacks.1)

  meets_example : Meets (example O i x) O
  meets_example k b h = set_named (mark O k) (eqb k i && x) b h

  -- its literal fails
  fails_example : (b : Bool) → Has Q i b → (mark (after O L) i ≡ Unnamed) ⊎ (mark (after O L) i ≡ sign (not b)) → ran L (example O i x) i ≡ not b
  fails_example b q (inl u) =
      let t = same_after O L (example O i x) i u in
      t.1 ∙ set_this (mark O i) (eqb i i) x t.0 (eq-eqb i i refl) ∙ turned ∙ opposite_is (mark Q i) b q
  fails_example b q (inr u) = meets_after O L (example O i x) meets_example i (not b) u

  sized_example : Sized n (example O i x)
  sized_example k h =
      let below : i < n = below_size in
      let clear : Named O k → ⊥ = λ o. let less : k < n = small k o in omega arith in
      set_other (mark O k) (eqb k i) x (not_named (mark O k) clear) (ne_eqb k i (λ e. omega arith))

  is_example : Example n O L Q (example O i x)
  is_example =
      record {
        fact = i;
        plus = lacks.0;
        literal = lacks.1;
        fails = record { world = example O i x; sized = sized_example; meets = meets_example; fails = λ e. not_same lacks.0 (sym (fails_example lacks.0 lacks.1 lacks.2) ∙ e) };
        first = λ k b h q f. f.fails (meets_after O L f.world f.meets k b (has_below (after O L) Q k b (low.1 k h) q));
        sized = sized_example;
        as_named = meets_example;
        turned = λ u. set_this (mark O i) (eqb i i) x (not_named (mark O i) u) (eq-eqb i i refl) ∙ turned ∙ opposite_is (mark Q i) lacks.0 lacks.1;
        others = λ k u d. set_other (mark O k) (eqb k i) x (not_named (mark O k) u) (ne_eqb k i d);
      }

  pub shows_example : Shows n O L Q (example O i x)
  shows_example =
      record {
        example = is_example;
        only = λ v e. (λ d k. same_at n O L Q v (example O i x) e is_example k d);
        fails = λ m. not_same lacks.0 (sym (fails_example lacks.0 lacks.1 lacks.2) ∙ m i lacks.0 lacks.1);
      }
