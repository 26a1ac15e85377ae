-- A text cut at a byte.
use Rattle.std.proofs.Common.{◌≡◌, ℕ, suc, ◌+◌, ◌-◌, ◌<◌, ◌≤◌, Bool, true, false, cond, eqb, ltb, List, [], ◌∷◌, length, take, drop, get_or, Some, None, Option, sym, refl, ap, ◌∙◌, arith, length-drop, Bor}
use Rattle.std.specs.Option.{option_map, unwrap_or}
use Rattle.std.specs.List.{count_by, position, position_or_len, slice_get}
use Rattle.std.proofs.lemmas.List.Quantifiers.{position-Some}
use Rattle.std.proofs.lemmas.List.Splits.{length-slice_split, slice_split_first, slice_split_none}
use Rattle.std.proofs.lemmas.List.Sums.{position_or_len_is, fails_before_first}
use Rattle.std.proofs.lemmas.List.{take_rest}
use Rattle.std.proofs.lemmas.Bool.{ltb-false}
use Rattle.std.proofs.lemmas.Option.{unwrap_or-slice_get}
use Rattle.text.specs.Lines.{cutting, lines, parts, Cut, NextLine}
use Rattle.text.proofs.Joins.{parts_split, some_part, join_parts}
use Rattle.text.specs.Spelling.{join}

-- the parts still to come, and what bounds their number
abbrev pub still : ℕ → Option (Bor (List ℕ)) → List (List ℕ)
still k None = []
still k (Some t) = parts k t.now

abbrev pub left_of : Option (Bor (List ℕ)) → ℕ
left_of None = 0
left_of (Some t) = suc (length t.now)

pub parts_cut : (k : ℕ) (s : List ℕ) (n : ℕ) → position (λ b. eqb b k) s ≡ Some n → (parts k s ≡ take n s ∷ parts k (take (length s - (n + 1)) (drop (n + 1) s))) × (length (take (length s - (n + 1)) (drop (n + 1) s)) < length s)
parts_cut k s n h =
    let p = λ (b : ℕ). eqb b k in
    let q = position-Some p s n 0 h in
    let at : position_or_len p s ≡ n = position_or_len_is p s n 0 (omega (arith, q.0)) q.2 (λ _. q.1) in
    let rest = take_rest s (n + 1) in
    (parts_split k s ∙ slice_split_first p s 0 (omega (arith, q.0)) ∙ (λ i. take (at i) s ∷ sym (parts_split k (drop (at i + 1) s)) i) ∙ (λ i. take n s ∷ parts k (sym rest i)), omega (arith, q.0, ap length rest, length-drop (n + 1) s))

pub parts_whole : (k : ℕ) (s : List ℕ) → position (λ b. eqb b k) s ≡ None → parts k s ≡ s ∷ []
parts_whole k s h = parts_split k s ∙ slice_split_none p s (λ i d l. fails_before_first p s i d (omega (arith, far (ltb (position_or_len p s) (length s)) refl h)))
  where
    p : ℕ → Bool
    p b = eqb b k

    far : (t : Bool) → ltb (position_or_len p s) (length s) ≡ t → cond t (Some (position_or_len p s)) None ≡ None → length s ≤ position_or_len p s
    far true e h = absurd (cc)
    far false e h = ltb-false (position_or_len p s) (length s) e

-- the lines are the parts at 0A without an empty last one
last : List ℕ → List (List ℕ)
last [] = []
last (b ∷ p) = (b ∷ p) ∷ []

ended : List (List ℕ) → List (List ℕ)
ended [] = []
ended (p ∷ []) = last p
ended (p ∷ q ∷ ps) = p ∷ ended (q ∷ ps)

lines_parts : (s : List ℕ) → lines s ≡ ended (parts 10 s)
unfolding ended last
lines_parts [] = refl
lines_parts (b ∷ s) =
    let r = some_part 10 s in
    ap (cutting (eqb b 10) b) (lines_parts s ∙ ap ended r.2) ∙ go (eqb b 10) r.0 r.1 ∙ ap (λ ps. ended (cutting (eqb b 10) b ps)) (sym r.2)
  where
    go : (t : Bool) (p : List ℕ) (ps : List (List ℕ)) → cutting t b (ended (p ∷ ps)) ≡ ended (cutting t b (p ∷ ps))
    go true p ps = refl
    go false [] [] = refl
    go false (c ∷ p) [] = refl
    go false p (q ∷ ps) = refl

last_some : (p : List ℕ) → 0 < length p → last p ≡ p ∷ []
unfolding last
last_some [] h = absurd (omega arith)
last_some (b ∷ p) h = refl

-- the next line, and what is left after it
pub next_of_cut : (s : List ℕ) (line : Bor (List ℕ)) (more : Option (Bor (List ℕ))) (none : Bor (List ℕ)) → none.now ≡ [] → 0 < length s → Cut 10 s line.now more → NextLine s (Some line) (unwrap_or more none).now
unfolding ended
next_of_cut s line None none n some h =
    let whole : line.now ≡ s = sym (ap (join 10) h) ∙ join_parts 10 s in
    (lines_parts s ∙ ap ended h ∙ last_some line.now (omega (arith, ap length whole)) ∙ ap (λ t. line.now ∷ lines t) (sym n), omega (arith, ap length n))
next_of_cut s line (Some t) none n some h =
    let r = some_part 10 t.now in
    (lines_parts s ∙ ap ended (h.0 ∙ ap (λ ps. line.now ∷ ps) r.2) ∙ ap (λ ls. line.now ∷ ls) (sym (lines_parts t.now ∙ ap ended r.2)), h.1)

-- an item of a list, or else the default
pub shown_or : (r : Option (Bor (List ℕ))) (none : Bor (List ℕ)) (all : List (List ℕ)) (i : ℕ) → none.now ≡ [] → option_map (λ x. x.now) r ≡ slice_get all i → (unwrap_or r none).now ≡ get_or all i []
shown_or r none all i n h = go r h ∙ unwrap_or-slice_get all i []
  where
    go : (r : Option (Bor (List ℕ))) → option_map (λ x. x.now) r ≡ slice_get all i → (unwrap_or r none).now ≡ unwrap_or (slice_get all i) []
    go None h = n ∙ ap (λ o. unwrap_or o []) h
    go (Some x) h = ap (λ o. unwrap_or o []) h

pub part_count : (s : List ℕ) → length (parts 9 s) ≡ count_by (λ b. eqb b 9) s + 1
part_count s = ap length (parts_split 9 s) ∙ length-slice_split (λ b. eqb b 9) s
