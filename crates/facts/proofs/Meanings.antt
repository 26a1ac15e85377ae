-- The computed definitions say what the words say.
use Rattle.std.proofs.Common.{◌≡◌, ℕ, suc, ◌<◌, ◌≤◌, List, get_or, take, ⊎_elim, Bool, false, [], ◌∷◌, length, sym, refl, ap, ◌∙◌, arith}
use Rattle.std.proofs.lemmas.List.{get_or_past, get_or-take, length-take-le}
use Rattle.std.proofs.lemmas.Bool.{cases_lt}
use Rattle.facts.specs.States.{State, mark, Named, Within, overridden, without, missing}
use Rattle.facts.specs.Worlds.{World, Sized, unmet, set_one, carried}
use Rattle.facts.specs.Words.{Overridden, Without, Missing, Unmet, Sets}
use Rattle.facts.proofs.Marks.{mark_over, mark_less, mark_missing, mark_unmet, over_says, says_over, less_says, says_less, missing_says, says_missing, unmet_says, says_unmet, set_named, set_unnamed, not_named}

pub overridden_means : (P E : State) → Overridden P E (overridden P E)
overridden_means P E i b = (
  λ h. over_says (mark P i) (mark E i) b (sym (mark_over P E i) ∙ h),
  λ h. mark_over P E i ∙ says_over (mark P i) (mark E i) b h,
)

pub without_means : (P Q : State) → Without P Q (without P Q)
without_means P Q i b = (
  λ h. less_says (mark P i) (mark Q i) b (sym (mark_less P Q i) ∙ h),
  λ h. mark_less P Q i ∙ says_less (mark P i) (mark Q i) b h,
)

pub missing_means : (P Q : State) → Missing P Q (missing P Q)
missing_means P Q i b = (
  λ h. missing_says (mark P i) (mark Q i) b (sym (mark_missing P Q i) ∙ h),
  λ h. mark_missing P Q i ∙ says_missing (mark P i) (mark Q i) b h,
)

pub unmet_means : (w : World) (s : State) → Unmet w s (unmet w s)
unmet_means w s i b = (
  λ h. unmet_says (mark s i) (w i) b (sym (mark_unmet w s i) ∙ h),
  λ h. mark_unmet w s i ∙ says_unmet (mark s i) (w i) b h,
)

pub length_unmet : (w : World) (s : State) → length (unmet w s) ≡ length s
length_unmet w [] = refl
length_unmet w (m ∷ s) = ap suc (length_unmet (λ i. w (suc i)) s)

-- the facts of a world with those of s set, in a row of n or more
pub carried_is : (s : State) (w : World) (n : ℕ) (F : List Bool) → Within n s → Sized n w → n ≤ length F → ((k : ℕ) → k < n → get_or F k false ≡ set_one (mark s k) (w k)) → (λ (k : ℕ). get_or (take n F) k false) ≡ carried s w
carried_is s w n F small sized fits h = λ d k. at k d
  where
    past : (k : ℕ) → n ≤ k → carried s w k ≡ false
    past k l =
        let clear : Named s k → ⊥ = λ o. let less : k < n = small k o in omega arith in
        set_unnamed (mark s k) (w k) (not_named (mark s k) clear) ∙ sized k l

    at : (k : ℕ) → get_or (take n F) k false ≡ carried s w k
    at k =
        ⊎_elim
        (λ l. get_or-take n F k false l ∙ h k l)
        (λ l.
        let f : length (take n F) ≡ n = length-take-le n F fits in
        get_or_past (take n F) k false (omega arith) ∙ sym (past k l))
        (cases_lt k n)

pub carried_sets : (E : State) (w v : World) → v ≡ carried E w → Sets E w v
carried_sets E w v e =
    record {
      as_named = λ i b h. ap (λ (u : World). u i) e ∙ set_named (mark E i) (w i) b h;
      others = λ i n. ap (λ (u : World). u i) e ∙ set_unnamed (mark E i) (w i) (not_named (mark E i) n);
    }
