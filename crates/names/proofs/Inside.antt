-- A state field names only the facts of its rows.
use Rattle.std.proofs.Common.{◌≡◌, ℕ, ◌<◌, Bool, true, false, ◌⊎◌, List, [], ◌∷◌, length, set, IfOk, Ok, Err, Result, sym, refl, ap, ◌∙◌, subst, inl, inr, arith}
use Rattle.std.proofs.lemmas.Bool.{cases_eq}
use Rattle.std.proofs.lemmas.List.{get_or-set_other}
use Rattle.facts.specs.declared.state.State as code
use Rattle.facts.specs.declared.mark.Mark.TheVariants.{Unnamed}
use Rattle.facts.specs.States.{State, mark, named, sign, Within, within, nothing}
use Rattle.facts.specs.Models.{row, mapped_ok}
use Rattle.facts.proofs.Marks.{mark_nothing, unnamed_not}
use Rattle.facts.proofs.Tests.{within_decides}
use Rattle.text.specs.declared.fault.Place.{Place}
use Rattle.text.specs.declared.fault.TextFault.{TextFault}
use Rattle.text.specs.Chains.{then}
use Rattle.text.specs.Lines.{parts}
use Rattle.names.specs.Names.{same_name}
use Rattle.names.specs.Literals.{literal, literals, parted, state_field}
use Rattle.names.proofs.Reading.{literal_read}

within_set : (n : ℕ) (s : State) (i : ℕ) (b : Bool) → i < n → Within n s → Within n (set s i (sign b))
within_set n s i b l w k h = go (cases_eq k i)
  where
    go : (k ≡ i) ⊎ (k ≡ i → ⊥) → k < n
    go (inl e) = omega arith
    go (inr d) = w k (sym (ap named (get_or-set_other s i k (sign b) Unnamed d)) ∙ h)

within_literal : (facts : List (List ℕ)) (at : Place) (l : List ℕ) (s t : State) → Within (length facts) s → literal facts at l s ≡ Ok t → Within (length facts) t
within_literal facts at l s t w e =
    let o = literal_read facts at l s t e in
    subst (Within (length facts)) (sym o.state) (within_set (length facts) s o.fact o.plus o.below w)

within_literals : (facts : List (List ℕ)) (at : Place) (ls : List (List ℕ)) (s t : State) → Within (length facts) s → literals facts at ls s ≡ Ok t → Within (length facts) t
within_literals facts at [] s t w e = let same : s ≡ t = cc in subst (Within (length facts)) same w
within_literals facts at (l ∷ ls) s t w e = go (λ u v h. within_literals facts at ls u t v h) (literal facts at l s) refl e
  where
    go : ((u : State) → Within (length facts) u → literals facts at ls u ≡ Ok t → Within (length facts) t) → (r : Result State TextFault) → literal facts at l s ≡ r → then r (λ u. literals facts at ls u) ≡ Ok t → Within (length facts) t
    go next (Ok u) h k = next u (within_literal facts at l s u w h) k
    go next (Err x) h k = absurd (cc)

within_nothing : (n : ℕ) → Within n nothing
within_nothing n i h = absurd (unnamed_not (mark nothing i) (mark_nothing i) h)

pub within_field : (facts : List (List ℕ)) (at : Place) (f : List ℕ) (t : State) → state_field facts at f ≡ Ok t → within (length facts) t ≡ true
within_field facts at f t e = (within_decides (length facts) t).1 (go (same_name f (46 ∷ [])) e)
  where
    go : (x : Bool) → parted x facts at f ≡ Ok t → Within (length facts) t
    go true h = let same : nothing ≡ t = cc in subst (Within (length facts)) same (within_nothing (length facts))
    go false h = within_literals facts at (parts 32 f) nothing t (within_nothing (length facts)) h

pub within_read : (facts : List (List ℕ)) (at : Place) (f : List ℕ) (r : Result code.State TextFault) (n : ℕ) → length facts ≡ n → mapped_ok row r ≡ state_field facts at f → IfOk r (λ s. within n (row s) ≡ true)
within_read facts at f (Ok s) n l e = ap (λ k. within k (row s)) (sym l) ∙ within_field facts at f (row s) (sym e)
within_read facts at f (Err x) n l e = tt
