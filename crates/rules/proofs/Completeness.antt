-- The written derivation of a good list.
use Rattle.std.proofs.Common.{◌≡◌, ℕ, ◌+◌, ◌≤◌, false, List, [], ◌∷◌, map, length, sym, ap, ◌∙◌, ⊎_elim, arith}
use Rattle.std.proofs.lemmas.Bool.{both_ways}
use Rattle.facts.specs.States.{State, mark, named, Covers, Apart, nothing, over_one, overridden, less_one}
use Rattle.facts.specs.Worlds.{Job}
use Rattle.facts.proofs.Marks.{mark_nothing, mark_over}
use Rattle.lists.proofs.Passing.{Passes, after}
use Rattle.lists.proofs.Places.{fits_parts}
use Rattle.lists.proofs.Verdicts.{good_passes}
use Rattle.rules.specs.Rules.{Tree, depth, Derives}
use Rattle.rules.specs.Rules.Derives.{by_H, by_A, by_C, by_W, by_S, by_F}
use Rattle.rules.specs.Written.{beside, one_job, steps, all_steps}
use Rattle.rules.specs.Theorems.{Complete, Shallow}
use Rattle.rules.proofs.Marks.{over_unnamed_first, mark_beside, over_named, beside_effect, beside_named, beside_opens, beside_ends}

covers_trans : (P Q R : State) → Covers P Q → Covers Q R → Covers P R
covers_trans P Q R c d i b h = c i b (d i b h)

passes_end : (P : State) (L : List Job) (G : State) → Passes P L G → Covers (after P L) G
passes_end P [] G c = c
passes_end P (j ∷ L) G p = passes_end (overridden P j.effect) L G p.1

-- one job, with what it does not name beside it
module _ (P : State) (j : Job) where
  apart_pre : Apart (beside P j) j.precondition
  apart_pre i r h = beside_named (mark P i) (mark j.precondition i) (mark j.effect i) (sym (ap named (mark_beside P j i)) ∙ r) h

  apart_effect : Apart (beside P j) j.effect
  apart_effect i r h = beside_effect (mark P i) (mark j.precondition i) (mark j.effect i) (sym (ap named (mark_beside P j i)) ∙ r) h

  apart_end : Apart (beside P j) (overridden j.precondition j.effect)
  apart_end i r h = ⊎_elim (apart_effect i r) (apart_pre i r) (over_named (mark j.precondition i) (mark j.effect i) (sym (ap named (mark_over j.precondition j.effect i)) ∙ h))

  opening_at : (i : ℕ) → mark (overridden j.precondition (beside P j)) i ≡ over_one (mark j.precondition i) (less_one (less_one (mark P i) (mark j.precondition i)) (mark j.effect i))
  opening_at i = mark_over j.precondition (beside P j) i ∙ ap (over_one (mark j.precondition i)) (mark_beside P j i)

  end_at : (i : ℕ) → mark (overridden (overridden j.precondition j.effect) (beside P j)) i ≡ over_one (over_one (mark j.precondition i) (mark j.effect i)) (less_one (less_one (mark P i) (mark j.precondition i)) (mark j.effect i))
  end_at i = mark_over (overridden j.precondition j.effect) (beside P j) i ∙ (λ k. over_one (mark_over j.precondition j.effect i k) (mark_beside P j i k))

apart_nothing : (P : State) → Apart P nothing
apart_nothing P i h k = let e : named (mark nothing i) ≡ false = ap named (mark_nothing i) in both_ways _ e k

over_nothing : (P : State) (i : ℕ) → mark (overridden nothing P) i ≡ mark P i
over_nothing P i = mark_over nothing P i ∙ ap (λ m. over_one m (mark P i)) (mark_nothing i) ∙ over_unnamed_first (mark P i)

module _ (job : ℕ → Job) where
  -- the tree derives L from a part of P, and gives all that holds after it
  record Stepped (t : Tree) (P : State) (L : List ℕ) : Type 0 where
    opening : State
    end : State
    derives : Derives job t opening end L
    opens : Covers P opening
    ends : Covers end (after P (map job L))

  one : (P : State) (k : ℕ) → Covers P (job k).precondition → Stepped (one_job job P k) P (k ∷ [])
  one P k c =
      let j = job k in
      record {
        opening = overridden j.precondition (beside P j);
        end = overridden (overridden j.precondition j.effect) (beside P j);
        derives = by_F (beside P j) (by_A k) (apart_pre P j) (apart_end P j) (apart_effect P j, tt);
        opens = λ i b h. beside_opens (mark P i) (mark j.precondition i) (mark j.effect i) b (c i) (sym (opening_at P j i) ∙ h);
        ends = λ i b h. end_at P j i ∙ beside_ends (mark P i) (mark j.precondition i) (mark j.effect i) b (c i) (sym (mark_over P j.effect i) ∙ h);
      }

  stepped : (L : List ℕ) (P : State) (k : ℕ) (G : State) → Passes P (map job (k ∷ L)) G → Stepped (steps job P k L) P (k ∷ L)
  stepped [] P k G p = one P k p.0
  stepped (m ∷ L) P k G p =
      let a = one P k p.0 in
      let b = stepped L (overridden P (job k).effect) m G p.1 in
      record {
        opening = a.opening;
        end = b.end;
        derives = by_C a.derives b.derives (covers_trans a.end (overridden P (job k).effect) b.opening a.ends b.opens);
        opens = a.opens;
        ends = b.ends;
      }

  all_stepped : (P : State) (L : List ℕ) (G : State) → Passes P (map job L) G → Stepped (all_steps job P L) P L
  all_stepped P [] G p = record { opening = overridden nothing P; end = overridden nothing P; derives = by_F P by_H (apart_nothing P) (apart_nothing P) tt; opens = λ i b h. sym (over_nothing P i) ∙ h; ends = λ i b h. over_nothing P i ∙ h }
  all_stepped P (k ∷ L) G p = stepped L P k G p

  steps_depth : (P : State) (k : ℕ) (L : List ℕ) → depth (steps job P k L) ≤ length L + 2
  steps_depth P k [] = omega arith
  steps_depth P k (m ∷ L) = let h = steps_depth (overridden P (job k).effect) m L in omega arith

pub complete : Complete
complete job n O G L f g =
    let p = good_passes n O G (map job L) (fits_parts n O G (map job L) f) g.few g in
    let t = all_stepped job O L G p in
    by_W O (by_S G t.derives (covers_trans t.end (after O (map job L)) G t.ends (passes_end O (map job L) G p))) t.opens

pub shallow : Shallow
shallow job O G [] h = omega arith
shallow job O G (k ∷ L) h = let d = steps_depth job O k L in omega arith
