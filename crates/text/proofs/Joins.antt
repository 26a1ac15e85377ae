-- Parts joined again, and joined parts cut again.
use Rattle.std.proofs.Common.{◌≡◌, ℕ, Bool, true, false, cond, eqb, List, [], ◌∷◌, ◌++◌, get_or, sym, refl, ap, ◌∙◌}
use Rattle.std.specs.List.{All, AllByRecursion, slice_split, onto_first, join_with_byte}
use Rattle.std.proofs.lemmas.Bool.{eq-eqb, ne_eqb}
use Rattle.std.proofs.lemmas.List.Elements.{All-from_recursion}
use Rattle.std.proofs.lemmas.List.Splits.{slice_split_at, slice_split_none, join_with_byte-slice_split}
use Rattle.text.specs.Lines.{onto, cutting, lines, parts}
use Rattle.text.specs.Spelling.{join, closed}

-- no byte is k
abbrev pub Free : ℕ → List ℕ → Type 0
Free k s = AllByRecursion (λ b. b ≡ k → ⊥) s

-- the parts are what the library's `split` gives
pub parts_split : (k : ℕ) (s : List ℕ) → parts k s ≡ slice_split (λ b. eqb b k) s
parts_split k [] = refl
parts_split k (b ∷ s) = go (eqb b k) (parts_split k s)
  where
    onto_is : (ls : List (List ℕ)) → onto b ls ≡ onto_first b ls
    onto_is [] = refl
    onto_is (l ∷ ls) = refl

    go : (t : Bool) → parts k s ≡ slice_split (λ b. eqb b k) s → cutting t b (parts k s) ≡ cond t ([] ∷ slice_split (λ b. eqb b k) s) (onto_first b (slice_split (λ b. eqb b k) s))
    go true e = ap (λ l. [] ∷ l) e
    go false e = ap (onto b) e ∙ onto_is (slice_split (λ b. eqb b k) s)

-- there is a part
pub some_part : (k : ℕ) (s : List ℕ) → (p : List ℕ) × (ps : List (List ℕ)) × (parts k s ≡ p ∷ ps)
some_part k [] = ([], [], refl)
some_part k (b ∷ s) =
    let r = some_part k s in
    elim (eqb b k) as (λ t. (p : List ℕ) × (ps : List (List ℕ)) × (cutting t b (parts k s) ≡ p ∷ ps))
    [ true ↦ ([], parts k s, refl) | false ↦ (b ∷ r.0, r.1, ap (onto b) r.2) ]

join_is : (k : ℕ) (ps : List (List ℕ)) → join k ps ≡ join_with_byte k ps
join_is k [] = refl
join_is k (p ∷ []) = refl
join_is k (p ∷ q ∷ ps) = ap (λ s. p ++ k ∷ s) (join_is k (q ∷ ps))

pub join_parts : (k : ℕ) (s : List ℕ) → join k (parts k s) ≡ s
join_parts k s = join_is k (parts k s) ∙ ap (join_with_byte k) (parts_split k s) ∙ join_with_byte-slice_split k s

unmet : (k : ℕ) (p : List ℕ) → Free k p → All (λ b. eqb b k ≡ false) p
unmet k p f i d l = ne_eqb (get_or p i d) k (All-from_recursion (λ b. b ≡ k → ⊥) p f i d l)

parts_free : (k : ℕ) (p s : List ℕ) → Free k p → parts k (p ++ k ∷ s) ≡ p ∷ parts k s
parts_free k p s f = parts_split k (p ++ k ∷ s) ∙ slice_split_at (λ b. eqb b k) p k s (unmet k p f) (eq-eqb k k refl) ∙ ap (λ l. p ∷ l) (sym (parts_split k s))

parts_last_free : (k : ℕ) (p : List ℕ) → Free k p → parts k p ≡ p ∷ []
parts_last_free k p f = parts_split k p ∙ slice_split_none (λ b. eqb b k) p (unmet k p f)

pub parts_join : (k : ℕ) (p : List ℕ) (ps : List (List ℕ)) → Free k p → AllByRecursion (Free k) ps → parts k (join k (p ∷ ps)) ≡ p ∷ ps
parts_join k p [] f fs = parts_last_free k p f
parts_join k p (q ∷ ps) f fs = parts_free k p (join k (q ∷ ps)) f ∙ ap (λ l. p ∷ l) (parts_join k q ps fs.0 fs.1)

lines_free : (l s : List ℕ) → Free 10 l → lines (l ++ 10 ∷ s) ≡ l ∷ lines s
lines_free [] s f = refl
lines_free (b ∷ l) s f = ap (λ t. cutting t b (lines (l ++ 10 ∷ s))) (ne_eqb b 10 f.0) ∙ ap (onto b) (lines_free l s f.1)

pub lines_closed : (ls : List (List ℕ)) → AllByRecursion (Free 10) ls → lines (closed ls) ≡ ls
lines_closed [] f = refl
lines_closed (l ∷ ls) f = lines_free l (closed ls) f.0 ∙ ap (λ m. l ∷ m) (lines_closed ls f.1)
