-- Where the facts of an end come from, and lists whose effects stay clear of a bar.
use Rattle.std.proofs.Common.{ℕ, ◌⊎◌, List, [], ◌∷◌, ◌++◌, sym, ap, ◌∙◌, inl, inr, ⊎_elim}
use Rattle.facts.specs.States.{State, mark, named, Named, Covers, overridden}
use Rattle.facts.specs.Worlds.{Job}
use Rattle.facts.proofs.Marks.{mark_over}
use Rattle.rules.specs.Rules.{Tree, Derives, Untouched, Touches}
use Rattle.rules.specs.Rules.Derives.{by_H, by_A, by_C, by_W, by_S, by_F}
use Rattle.rules.specs.Theorems.{Traced, EndSpared}
use Rattle.rules.proofs.Marks.{over_named, named_over, covers_named}

named_covered : (P Q : State) (i : ℕ) → Covers P Q → Named Q i → Named P i
named_covered P Q i c h = covers_named (mark P i) (mark Q i) (c i) h

over_names : (P R : State) (i : ℕ) → Named (overridden P R) i → Named R i ⊎ Named P i
over_names P R i h = over_named (mark P i) (mark R i) (sym (ap named (mark_over P R i)) ∙ h)

names_over : (P R : State) (i : ℕ) → Named R i ⊎ Named P i → Named (overridden P R) i
names_over P R i h = ap named (mark_over P R i) ∙ named_over (mark P i) (mark R i) h

module _ (job : ℕ → Job) where
  touches_left : (L M : List ℕ) (i : ℕ) → Touches job L i → Touches job (L ++ M) i
  touches_left [] M i h = absurd h
  touches_left (k ∷ L) M i (inl h) = inl h
  touches_left (k ∷ L) M i (inr h) = inr (touches_left L M i h)

  touches_right : (L M : List ℕ) (i : ℕ) → Touches job M i → Touches job (L ++ M) i
  touches_right [] M i h = h
  touches_right (k ∷ L) M i h = inr (touches_right L M i h)

  traces : {t : Tree} {O E : State} {L : List ℕ} → Derives job t O E L → (i : ℕ) → Named E i → Named O i ⊎ Touches job L i
  traces by_H i h = inl h
  traces (by_A k) i h = ⊎_elim (λ e. inr (inl e)) inl (over_names (job k).precondition (job k).effect i h)
  traces (by_C {O₁ = O} {E₁ = E} {O₂ = P} {L₁ = L} {L₂ = M} d e c) i h =
      ⊎_elim (λ o. ⊎_elim inl (λ u. inr (touches_left L M i u)) (traces d i (named_covered E P i c o))) (λ u. inr (touches_right L M i u)) (traces e i h)
  traces (by_W {O = O} P d c) i h = ⊎_elim (λ o. inl (named_covered P O i c o)) inr (traces d i h)
  traces (by_S {E = E} Q d c) i h = traces d i (named_covered E Q i c h)
  traces (by_F {O = O} {E = E} R d _ _ _) i h =
      ⊎_elim (λ r. inl (names_over O R i (inl r))) (λ e. ⊎_elim (λ o. inl (names_over O R i (inr o))) inr (traces d i e)) (over_names E R i h)

  untouched_at : (R : State) (L : List ℕ) (i : ℕ) → Untouched job R L → Named R i → Touches job L i → ⊥
  untouched_at R [] i u r h = h
  untouched_at R (k ∷ L) i u r (inl h) = u.0 i r h
  untouched_at R (k ∷ L) i u r (inr h) = untouched_at R L i u.1 r h

  -- a bar and a frame together bar what either names
  pub bars_both : (bar R : State) (L : List ℕ) → Untouched job (overridden bar R) L → Untouched job bar L × Untouched job R L
  bars_both bar R [] u = (tt, tt)
  bars_both bar R (k ∷ L) u =
      let t = bars_both bar R L u.1 in
      ((λ i b h. u.0 i (names_over bar R i (inr b)) h, t.0), (λ i r h. u.0 i (names_over bar R i (inl r)) h, t.1))

  pub both_bar : (bar R : State) (L : List ℕ) → Untouched job bar L → Untouched job R L → Untouched job (overridden bar R) L
  both_bar bar R [] u v = tt
  both_bar bar R (k ∷ L) u v = (λ i b h. ⊎_elim (λ r. v.0 i r h) (λ c. u.0 i c h) (over_names bar R i b), both_bar bar R L u.1 v.1)

  pub untouched_append : (R : State) (L M : List ℕ) → Untouched job R L → Untouched job R M → Untouched job R (L ++ M)
  untouched_append R [] M u v = v
  untouched_append R (k ∷ L) M u v = (u.0, untouched_append R L M u.1 v)

  pub append_untouched : (R : State) (L M : List ℕ) → Untouched job R (L ++ M) → Untouched job R L × Untouched job R M
  append_untouched R [] M u = (tt, u)
  append_untouched R (k ∷ L) M u = let t = append_untouched R L M u.1 in ((u.0, t.0), t.1)

pub traced : Traced
traced job t O E L d = traces job d

pub end_spared : EndSpared
end_spared job t O E R L d a u i r h = ⊎_elim (a i r) (untouched_at job R L i u r) (traces job d i h)
