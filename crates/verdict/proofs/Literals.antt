-- A state's literals in rising fact number spell it.
use Rattle.std.proofs.Common.{◌≡◌, ℕ, zero, suc, ◌+◌, List, [], ◌∷◌, ◌++◌, length, set, replicate, sym, refl, ap, ◌∙◌, subst, inl, inr, append_assoc, arith}
use Rattle.std.proofs.lemmas.List.{length_push, get_or_at}
use Rattle.facts.specs.declared.mark.Mark.{Mark}
use Rattle.facts.specs.declared.mark.Mark.TheVariants.{Unnamed, Holds, Fails}
use Rattle.facts.specs.States.{State, named, nothing, Within}
use Rattle.names.specs.Spelling.{Literal, Adds, Denotes}
use Rattle.table.specs.Tables.{Table}
use Rattle.verdict.specs.Slips.{literals_from, literals_text, state_text}
use Rattle.verdict.specs.Statements.{StateOver}

-- one place of a row set
set_at : (s : State) (m n : Mark) (r : State) (i : ℕ) → length s ≡ i → set (s ++ m ∷ r) i n ≡ s ++ n ∷ r
set_at [] m n r zero e = refl
set_at [] m n r (suc i) e = absurd (omega arith)
set_at (x ∷ s) m n r zero e = absurd (omega arith)
set_at (x ∷ s) m n r (suc i) e = ap (λ y. x ∷ y) (set_at s m n r i (omega arith))

-- the marks s are read; those of r are still to come
module _ (n : ℕ) where
  added : (r s : State) (i : ℕ) → length s ≡ i → Within n (s ++ r) → Adds n (s ++ replicate (length r) Unnamed) (literals_from i r) (s ++ r)
  added [] s i e w = refl
  added (Unnamed ∷ r) s i e w =
      let len = length_push s Unnamed in
      subst (λ (x : State). Adds n x (literals_from (i + 1) r) (s ++ Unnamed ∷ r)) (append_assoc s (Unnamed ∷ []) (replicate (length r) Unnamed)) (subst (λ (x : State). Adds n ((s ++ Unnamed ∷ []) ++ replicate (length r) Unnamed) (literals_from (i + 1) r) x) (append_assoc s (Unnamed ∷ []) r) (added r (s ++ Unnamed ∷ []) (i + 1) (omega arith) (subst (Within n) (sym (append_assoc s (Unnamed ∷ []) r)) w)))
  added (Holds ∷ r) s i e w =
      let len = length_push s Holds in
      let rest = replicate (length r) Unnamed in (
        w i (ap named (get_or_at s Holds r Unnamed i e)),
        get_or_at s Unnamed rest Unnamed i e,
        subst (λ (x : State). Adds n x (literals_from (i + 1) r) (s ++ Holds ∷ r)) (append_assoc s (Holds ∷ []) rest ∙ sym (set_at s Unnamed Holds rest i e)) (subst (λ (x : State). Adds n ((s ++ Holds ∷ []) ++ rest) (literals_from (i + 1) r) x) (append_assoc s (Holds ∷ []) r) (added r (s ++ Holds ∷ []) (i + 1) (omega arith) (subst (Within n) (sym (append_assoc s (Holds ∷ []) r)) w))),
      )
  added (Fails ∷ r) s i e w =
      let len = length_push s Fails in
      let rest = replicate (length r) Unnamed in (
        w i (ap named (get_or_at s Fails r Unnamed i e)),
        get_or_at s Unnamed rest Unnamed i e,
        subst (λ (x : State). Adds n x (literals_from (i + 1) r) (s ++ Fails ∷ r)) (append_assoc s (Fails ∷ []) rest ∙ sym (set_at s Unnamed Fails rest i e)) (subst (λ (x : State). Adds n ((s ++ Fails ∷ []) ++ rest) (literals_from (i + 1) r) x) (append_assoc s (Fails ∷ []) r) (added r (s ++ Fails ∷ []) (i + 1) (omega arith) (subst (Within n) (sym (append_assoc s (Fails ∷ []) r)) w))),
      )

pub literals_added : (t : Table) (s : State) → StateOver t s → Adds (length t.facts) nothing (literals_from 0 s) s
literals_added t s o = subst (λ (k : ℕ). Adds (length t.facts) (replicate k Unnamed) (literals_from 0 s) s) o.places (added (length t.facts) s [] 0 refl o.within)

pub state_spelt : (t : Table) (s : State) → StateOver t s → Denotes t.facts (state_text t.facts s) s
state_spelt t s o = go (literals_from 0 s) (literals_added t s o)
  where
    go : (ls : List Literal) → Adds (length t.facts) nothing ls s → Denotes t.facts (literals_text t.facts ls) s
    go [] a = inl (refl, a)
    go (l ∷ ls) a = inr (record { first = l; rest = ls; field = refl; adds = a })
