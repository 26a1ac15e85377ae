-- The tag of a line is its first field.
use Rattle.std.proofs.Common.{◌≡◌, ℕ, Bool, true, false, cond, eqb, List, [], ◌∷◌, Some, Option, refl, ap, ◌∙◌}
use Rattle.std.proofs.lemmas.Bool.{eqb-true}
use Rattle.text.specs.declared.tag.Tag.{Tag}
use Rattle.text.specs.declared.tag.Tag.TheVariants.{N, D, B, G, E, W, S, C, F, A, H}
use Rattle.text.specs.Tags.{by_letter, of_field}

abbrev pub letter : Tag → ℕ
letter N = 78
letter D = 68
letter B = 66
letter G = 71
letter E = 69
letter W = 87
letter S = 83
letter C = 67
letter F = 70
letter A = 65
letter H = 72

-- b has the letter of u, or of another tag
either : (b : ℕ) (t u : Tag) (r : Option Tag) → (r ≡ Some t → b ≡ letter t) → cond (eqb b (letter u)) (Some u) r ≡ Some t → b ≡ letter t
either b t u r other h = go (eqb b (letter u)) refl h
  where
    go : (x : Bool) → eqb b (letter u) ≡ x → cond x (Some u) r ≡ Some t → b ≡ letter t
    go true e h = let same : u ≡ t = cc in eqb-true b (letter u) e ∙ ap letter same
    go false e h = other h

lettered : (b : ℕ) (t : Tag) → by_letter b ≡ Some t → b ≡ letter t
lettered b t =
    let or = either b t in
    or N _ (or D _ (or B _ (or G _ (or E _ (or W _ (or S _ (or C _ (or F _ (or A _ (or H _ (λ h. absurd (cc))))))))))))

-- a field that is a tag has its letter
pub tag_letter : (t : Tag) (f : List ℕ) → of_field f ≡ Some t → f ≡ letter t ∷ []
tag_letter t [] e = absurd (cc)
tag_letter t (b ∷ []) e = ap (λ x. x ∷ []) (lettered b t e)
tag_letter t (b ∷ c ∷ s) e = absurd (cc)
