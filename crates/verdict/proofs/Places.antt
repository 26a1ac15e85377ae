-- States of 256 places.
use Rattle.std.proofs.Common.{◌≡◌, ℕ, zero, suc, List, [], ◌∷◌, length, get_or, set, sym, refl, ap, ◌∙◌, inl, inr, length-set}
use Rattle.std.specs.List.{AllByRecursion}
use Rattle.facts.specs.States.{State, sign, nothing, over_one, overridden}
use Rattle.facts.proofs.Scans.{length_blend}
use Rattle.names.specs.Spelling.{Literal, Adds, Denotes}
use Rattle.table.specs.Rows.{Row}
use Rattle.table.specs.Jobs.{no_row}
use Rattle.verdict.specs.Statements.{FullRow}

pub nothing_places : length nothing ≡ 256
nothing_places = refl

pub over_places : (P E : State) → length P ≡ 256 → length E ≡ 256 → length (overridden P E) ≡ 256
over_places P E p e = length_blend over_one P E (p ∙ sym e) ∙ p

adds_places : (n : ℕ) (s : State) (ls : List Literal) (t : State) → Adds n s ls t → length t ≡ length s
adds_places n s [] t a = ap (λ (x : State). length x) a
adds_places n s (l ∷ ls) t a = adds_places n (set s l.0 (sign l.1)) ls t a.2 ∙ length-set s l.0 (sign l.1)

pub denotes_places : (facts : List (List ℕ)) (f : List ℕ) (s : State) → Denotes facts f s → length s ≡ 256
denotes_places facts f s (inl h) = ap (λ (x : State). length x) h.1
denotes_places facts f s (inr h) = adds_places (length facts) nothing (h.first ∷ h.rest) s h.adds

pub full_at : (rs : List Row) (k : ℕ) → AllByRecursion FullRow rs → FullRow (get_or rs k no_row)
full_at [] k a = record { precondition = refl; effect = refl }
full_at (r ∷ rs) zero a = a.0
full_at (r ∷ rs) (suc k) a = full_at rs k a.1
