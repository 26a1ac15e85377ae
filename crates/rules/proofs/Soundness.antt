-- What the rules derive is good.
use Rattle.std.proofs.Common.{ℕ, List, [], ◌∷◌, ◌++◌, map, sym, ◌∙◌, ⊎_elim, arith}
use Rattle.std.proofs.lemmas.List.{length-map}
use Rattle.facts.specs.States.{State, mark, Covers, Apart, overridden}
use Rattle.facts.specs.Worlds.{World, Job, Meets, carried}
use Rattle.facts.proofs.Marks.{mark_over}
use Rattle.lists.specs.Lists.{Works}
use Rattle.lists.proofs.Passing.{meets_carried, meets_covered}
use Rattle.rules.specs.Rules.{Tree, Derives, Untouched}
use Rattle.rules.specs.Rules.Derives.{by_H, by_A, by_C, by_W, by_S, by_F}
use Rattle.rules.specs.Theorems.{Sound}
use Rattle.rules.proofs.Marks.{over_cases, apart_set, apart_over, over_has}

meets_over : (w : World) (P R : State) → Meets w P → Meets w R → Meets w (overridden P R)
meets_over w P R m r i b h = ⊎_elim (r i b) (m i b) (over_cases (mark P i) (mark R i) b (sym (mark_over P R i) ∙ h))

over_covers : (P R : State) → Apart R P → Covers (overridden P R) P
over_covers P R a i b h = mark_over P R i ∙ apart_over (mark P i) (mark R i) b (a i) h

over_covers_last : (P R : State) → Covers (overridden P R) R
over_covers_last P R i b h = mark_over P R i ∙ over_has (mark P i) (mark R i) b h

module _ (job : ℕ → Job) where
  works_weaker : (w : World) (L : List ℕ) (E Q : State) → Covers E Q → Works w (map job L) E → Works w (map job L) Q
  works_weaker w [] E Q c m = meets_covered w E Q c m
  works_weaker w (k ∷ L) E Q c h = (h.0, works_weaker (carried (job k).effect w) L E Q c h.1)

  works_then : (w : World) (L M : List ℕ) (E G : State) → Works w (map job L) E → ((v : World) → Meets v E → Works v (map job M) G) → Works w (map job (L ++ M)) G
  works_then w [] M E G m f = f w m
  works_then w (k ∷ L) M E G h f = (h.0, works_then (carried (job k).effect w) L M E G h.1 f)

  -- what no effect touches stays so
  works_with : (w : World) (L : List ℕ) (E R : State) → Works w (map job L) E → Untouched job R L → Meets w R → Works w (map job L) (overridden E R)
  works_with w [] E R m u r = meets_over w E R m r
  works_with w (k ∷ L) E R h u r =
      (h.0, works_with (carried (job k).effect w) L E R h.1 u.1 (λ i b l. apart_set (mark R i) (mark (job k).effect i) (w i) b (u.0 i) (r i b) l))

  works : {t : Tree} {O E : State} {L : List ℕ} → Derives job t O E L → (w : World) → Meets w O → Works w (map job L) E
  works by_H w m = m
  works (by_A k) w m = (m, meets_carried w (job k).precondition (job k).effect m)
  works (by_C {O₁ = O} {E₁ = E} {O₂ = P} {E₂ = G} {L₁ = L} {L₂ = M} d e c) w m = works_then w L M E G (works d w m) (λ v k. works e v (meets_covered v E P c k))
  works (by_W {O = O} P d c) w m = works d w (meets_covered w P O c m)
  works (by_S {E = E} {L = L} Q d c) w m = works_weaker w L E Q c (works d w m)
  works (by_F {O = O} {E = E} {L = L} R d a _ u) w m =
      works_with w L E R (works d w (meets_covered w (overridden O R) O (over_covers O R a) m)) u (meets_covered w (overridden O R) R (over_covers_last O R) m)

pub sound : Sound
sound job n t O E L few d = record { few = omega (arith, length-map L job); works = λ w s m. works job d w m }
