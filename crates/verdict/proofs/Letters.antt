-- What a line is by its tag and its number of fields.
use Rattle.std.proofs.Common.{◌≡◌, ℕ, eqb, List, [], ◌∷◌, length, get_or, Some, None, Ok, Err, Option, Result, sym, refl, ap, ◌∙◌, arith}
use Rattle.std.proofs.lemmas.Bool.{eqb-true, not-false}
use Rattle.text.specs.declared.tag.Tag.{Tag}
use Rattle.text.specs.declared.tag.Tag.TheVariants.{N, D, B, G, E, W, S, C, F, A, H}
use Rattle.text.specs.Chains.{then}
use Rattle.text.specs.Lines.{fields}
use Rattle.text.specs.Tags.{tag_of}
use Rattle.text.specs.Spelling.{join}
use Rattle.text.proofs.Undoing.{same_ok, unless_ok}
use Rattle.text.proofs.Lists.{two}
use Rattle.text.proofs.Tags.{tag_letter}
use Rattle.text.proofs.Joins.{join_parts}
use Rattle.verdict.specs.declared.fault.SlipFault.{SlipFault}
use Rattle.verdict.specs.declared.rule.Rule as rules
use Rattle.verdict.specs.declared.rule.Rule.TheVariants.{Halt, Apply, Compose, Weaken, Shrink, Frame}
use Rattle.verdict.specs.declared.rule.Header as headers
use Rattle.verdict.specs.declared.rule.Header.TheVariants.{Opening, Goal}
use Rattle.verdict.specs.Lines.{slip_tag, sized, as_header, as_rule, header_tag, rule_tag}
use Rattle.verdict.specs.Grammar.{bare, tagged}

one : (fs : List (List ℕ)) → length fs ≡ 1 → fs ≡ get_or fs 0 [] ∷ []
one [] h = absurd (omega arith)
one (a ∷ []) h = refl
one (a ∷ b ∷ fs) h = absurd (omega arith)

one_field : (l : List ℕ) (b : ℕ) → get_or (fields l) 0 [] ≡ bare b → length (fields l) ≡ 1 → l ≡ bare b
one_field l b e h = sym (join_parts 9 l) ∙ ap (join 9) (one (fields l) h ∙ ap (λ x. x ∷ []) e)

pub two_fields : (l : List ℕ) (b : ℕ) → get_or (fields l) 0 [] ≡ bare b → length (fields l) ≡ 2 → l ≡ tagged b (get_or (fields l) 1 [])
two_fields l b e h = sym (join_parts 9 l) ∙ ap (join 9) (two (fields l) h ∙ ap (λ x. x ∷ get_or (fields l) 1 [] ∷ []) e)

-- a line of as many fields as wanted
fit : {X : Type 0} (x y : X) (n m at : ℕ) → sized x n m at ≡ Ok y → (m ≡ n) × (x ≡ y)
fit x y n m at h = let p = unless_ok _ _ _ _ h in (eqb-true m n (not-false (eqb m n) p.test), same_ok _ _ p.second)

-- the line of a rule whose second field, if it has one, is f
abbrev pub rule_text : rules.Rule → List ℕ → List ℕ
rule_text Halt f = bare 72
rule_text Apply f = tagged 65 f
rule_text Compose f = bare 67
rule_text Weaken f = tagged 87 f
rule_text Shrink f = tagged 83 f
rule_text Frame f = tagged 70 f

pub rule_read : (l : List ℕ) (at : ℕ) (r : rules.Rule) → rule_tag (tag_of l) (length (fields l)) at ≡ Ok r → l ≡ rule_text r (get_or (fields l) 1 [])
rule_read l at r h = go (tag_of l) refl h
  where
    bare_line : (x : rules.Rule) (b : ℕ) → get_or (fields l) 0 [] ≡ bare b → (length (fields l) ≡ 1) × (x ≡ r) → rule_text x (get_or (fields l) 1 []) ≡ bare b → l ≡ rule_text r (get_or (fields l) 1 [])
    bare_line x b e p q = one_field l b e p.0 ∙ sym q ∙ ap (λ y. rule_text y (get_or (fields l) 1 [])) p.1

    tagged_line : (x : rules.Rule) (b : ℕ) → get_or (fields l) 0 [] ≡ bare b → (length (fields l) ≡ 2) × (x ≡ r) → rule_text x (get_or (fields l) 1 []) ≡ tagged b (get_or (fields l) 1 []) → l ≡ rule_text r (get_or (fields l) 1 [])
    tagged_line x b e p q = two_fields l b e p.0 ∙ sym q ∙ ap (λ y. rule_text y (get_or (fields l) 1 [])) p.1

    go : (g : Option Tag) → tag_of l ≡ g → then (slip_tag g at) (λ x. as_rule x (length (fields l)) at) ≡ Ok r → l ≡ rule_text r (get_or (fields l) 1 [])
    go (Some H) e k = bare_line Halt 72 (tag_letter H _ e) (fit _ _ _ _ _ k) refl
    go (Some C) e k = bare_line Compose 67 (tag_letter C _ e) (fit _ _ _ _ _ k) refl
    go (Some A) e k = tagged_line Apply 65 (tag_letter A _ e) (fit _ _ _ _ _ k) refl
    go (Some W) e k = tagged_line Weaken 87 (tag_letter W _ e) (fit _ _ _ _ _ k) refl
    go (Some S) e k = tagged_line Shrink 83 (tag_letter S _ e) (fit _ _ _ _ _ k) refl
    go (Some F) e k = tagged_line Frame 70 (tag_letter F _ e) (fit _ _ _ _ _ k) refl
    go (Some B) e k = let z : ◌≡◌ {A = ℕ} 0 1 = cc in absurd (omega arith)
    go (Some G) e k = let z : ◌≡◌ {A = ℕ} 0 1 = cc in absurd (omega arith)
    go (Some N) e k = let z : ◌≡◌ {A = ℕ} 0 1 = cc in absurd (omega arith)
    go (Some D) e k = let z : ◌≡◌ {A = ℕ} 0 1 = cc in absurd (omega arith)
    go (Some E) e k = let z : ◌≡◌ {A = ℕ} 0 1 = cc in absurd (omega arith)
    go None e k = let z : ◌≡◌ {A = ℕ} 0 1 = cc in absurd (omega arith)

abbrev pub header_letter : headers.Header → ℕ
header_letter Opening = 66
header_letter Goal = 71

pub header_read : (wanted : headers.Header) (l : List ℕ) (at : ℕ) (u : Unit {0}) → header_tag wanted (tag_of l) (length (fields l)) at ≡ Ok u → l ≡ tagged (header_letter wanted) (get_or (fields l) 1 [])
header_read wanted l at u h = go wanted (tag_of l) refl h
  where
    never : {X : Type 0} (f : SlipFault) → ◌≡◌ {A = Result (Unit {0}) SlipFault} (Err f) (Ok u) → X
    never f k = let z : ◌≡◌ {A = ℕ} 0 1 = cc in absurd (omega arith)

    go : (w : headers.Header) (g : Option Tag) → tag_of l ≡ g → then (slip_tag g at) (λ x. as_header w x (length (fields l)) at) ≡ Ok u → l ≡ tagged (header_letter w) (get_or (fields l) 1 [])
    go Opening (Some B) e k = two_fields l 66 (tag_letter B _ e) (fit _ _ _ _ _ k).0
    go Goal (Some B) e k = never _ k
    go Opening (Some G) e k = never _ k
    go Goal (Some G) e k = two_fields l 71 (tag_letter G _ e) (fit _ _ _ _ _ k).0
    go w (Some H) e k = never _ k
    go w (Some A) e k = never _ k
    go w (Some C) e k = never _ k
    go w (Some W) e k = never _ k
    go w (Some S) e k = never _ k
    go w (Some F) e k = never _ k
    go w (Some N) e k = never _ k
    go w (Some D) e k = never _ k
    go w (Some E) e k = never _ k
    go w None e k = never _ k
