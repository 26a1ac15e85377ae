-- What spells a state over well formed, distinct names is read as it.
use Rattle.std.proofs.Common.{◌≡◌, ℕ, zero, suc, ◌+◌, ◌<◌, ◌≤◌, Bool, true, false, cond, not, List, [], ◌∷◌, ◌++◌, map, length, get_or, set, is_some, Some, None, Ok, Option, Result, sym, refl, ap, ◌∙◌, inl, inr, arith}
use Rattle.std.specs.List.{AllByRecursion}
use Rattle.std.proofs.lemmas.Bool.Decides.{nat_tests}
use Rattle.std.proofs.lemmas.Bool.{and_parts, and_from, lt-leb, not-true, both_ways}
use Rattle.std.proofs.lemmas.List.{get_or_append_left, get_or_push, length_push}
use Rattle.facts.specs.declared.mark.Mark.TheVariants.{Unnamed}
use Rattle.facts.specs.States.{State, mark, named, sign, nothing, added}
use Rattle.text.specs.declared.fault.Place.{Place}
use Rattle.text.specs.declared.fault.TextFault.{TextFault}
use Rattle.text.specs.declared.fault.TextFault.TheVariants.{BadName, UnknownName}
use Rattle.text.specs.Chains.{then, then_in, unless, or_else}
use Rattle.text.specs.Lists.{each}
use Rattle.text.specs.Spelling.{join}
use Rattle.text.proofs.Lists.{each_all, each_at, each_append}
use Rattle.text.proofs.Joins.{Free, parts_join}
use Rattle.names.specs.Names.{in_name, good_name, same_name, found_from, found_at, distinct_from, proper_names}
use Rattle.names.specs.Literals.{not_added, literal, literals, parted, state_field}
use Rattle.names.specs.Spelling.{Literal, sign_byte, spell, Adds, Denotes, SpellsExactly}
use Rattle.names.proofs.Reading.{found_none, field_read}
use Rattle.names.proofs.Bytes.{same_true, true_same}
use Rattle.names.proofs.Plain.{plain_byte, good_bytes, good_plain}

name_spaceless : (b : ℕ) → in_name b ≡ true → b ≡ 32 → ⊥
name_spaceless b h e = grind (arith, nat_tests)

-- a name that is not found is none of the list
none_same : (m : List ℕ) (xs : List (List ℕ)) → is_some (found_at m xs) ≡ false → (k : ℕ) → k < length xs → same_name (get_or xs k []) m ≡ false
none_same m xs h k l = go (found_at m xs) refl (same_name (get_or xs k []) m) refl h
  where
    go : (o : Option ℕ) → found_at m xs ≡ o → (t : Bool) → same_name (get_or xs k []) m ≡ t → is_some o ≡ false → t ≡ false
    go None e true s h = absurd (found_none 0 m xs e k l (same_true (get_or xs k []) m s))
    go None e false s h = refl
    go (Some i) e t s h = absurd (both_ways true h refl)

apart : (seen ns : List (List ℕ)) → distinct_from seen ns ≡ true → (k i : ℕ) → k < length seen → i < length ns → same_name (get_or seen k []) (get_or ns i []) ≡ false
apart seen [] h k i l o = absurd (omega arith)
apart seen (n ∷ ns) h k zero l o = none_same n seen (not-true (is_some (found_at n seen)) (and_parts (not (is_some (found_at n seen))) (distinct_from (seen ++ n ∷ []) ns) h).0) k l
apart seen (n ∷ ns) h k (suc i) l o =
    let e = length_push seen n in
    ap (λ x. same_name x (get_or ns i [])) (sym (get_or_append_left seen (n ∷ []) [] k l)) ∙ apart (seen ++ n ∷ []) ns (and_parts (not (is_some (found_at n seen))) (distinct_from (seen ++ n ∷ []) ns) h).1 k i (omega arith) (omega arith)

-- each of distinct names is found at its place
pub found_self : (seen ns : List (List ℕ)) → distinct_from seen ns ≡ true → (j i : ℕ) → i < length ns → found_from j (get_or ns i []) ns ≡ Some (j + i)
found_self seen [] h j i l = absurd (omega arith)
found_self seen (n ∷ ns) h j zero l = let e : j ≡ j + 0 = omega arith in ap (λ t. cond t (Some j) (found_from (j + 1) n ns)) (true_same n) ∙ ap Some e
found_self seen (n ∷ ns) h j (suc i) l =
    let d = (and_parts (not (is_some (found_at n seen))) (distinct_from (seen ++ n ∷ []) ns) h).1 in
    let len = length_push seen n in
    let other : same_name n (get_or ns i []) ≡ false = ap (λ x. same_name x (get_or ns i [])) (sym (get_or_push seen n [] (length seen) refl)) ∙ apart (seen ++ n ∷ []) ns d (length seen) i (omega arith) (omega arith) in
    let e : j + 1 + i ≡ j + suc i = omega arith in
    ap (λ t. cond t (Some j) (found_from (j + 1) (get_or ns i []) ns)) other ∙ found_self (seen ++ n ∷ []) ns d (j + 1) i (omega arith) ∙ ap Some e

-- over well formed, distinct names of at most 256 facts
module _ (facts : List (List ℕ)) (proper : proper_names facts ≡ true) (few : length facts ≤ 256) (at : Place) where
  good : each good_name facts ≡ true
  good = (and_parts (each good_name facts) (distinct_from [] facts) proper).0

  distinct : distinct_from [] facts ≡ true
  distinct = (and_parts (each good_name facts) (distinct_from [] facts) proper).1

  put : (s : State) (i : ℕ) (b : Bool) → i < length facts → mark s i ≡ Unnamed → added s i b ≡ Ok (set s i (sign b))
  put s i b l u = rw (lt-leb 256 i (omega arith), ap named u)

  literal_spelt : (s : State) (i : ℕ) (b : Bool) → i < length facts → mark s i ≡ Unnamed → literal facts at (spell facts (i, b)) s ≡ Ok (set s i (sign b))
  literal_spelt s i b l u = go b
    where
      rest : (c : Bool) → then (unless (not (good_name (get_or facts i []))) (BadName at) (λ _. Ok (get_or facts i []))) (λ n. or_else (found_at n facts) (UnknownName at) (λ k. then_in (not_added at) (added s k c) (λ t. Ok t))) ≡ Ok (set s i (sign c))
      rest c =
          let z : 0 + i ≡ i = omega arith in
          ap (λ x. then (unless (not x) (BadName at) (λ _. Ok (get_or facts i []))) (λ n. or_else (found_at n facts) (UnknownName at) (λ k. then_in (not_added at) (added s k c) (λ t. Ok t)))) (each_at good_name facts [] good i l)
          ∙ ap (λ o. or_else o (UnknownName at) (λ k. then_in (not_added at) (added s k c) (λ t. Ok t))) (found_self [] facts distinct 0 i l ∙ ap Some z)
          ∙ ap (λ r. then_in (not_added at) r (λ t. Ok t)) (put s i c l u)

      go : (c : Bool) → literal facts at (spell facts (i, c)) s ≡ Ok (set s i (sign c))
      go true = rest true
      go false = rest false

  literals_spelt : (ls : List Literal) (s t : State) → Adds (length facts) s ls t → literals facts at (map (spell facts) ls) s ≡ Ok t
  literals_spelt [] s t a = ap Ok (sym a)
  literals_spelt (l ∷ ls) s t a =
      ap (λ r. then r (λ u. literals facts at (map (spell facts) ls) u)) (literal_spelt s l.0 l.1 a.0 a.1) ∙ literals_spelt ls (set s l.0 (sign l.1)) t a.2

  sign_spaceless : (b : Bool) → sign_byte b ≡ 32 → ⊥
  sign_spaceless true e = omega arith
  sign_spaceless false e = omega arith

  spell_spaceless : (l : Literal) → l.0 < length facts → Free 32 (spell facts l)
  spell_spaceless l h = (sign_spaceless l.1, each_all in_name (λ b. b ≡ 32 → ⊥) name_spaceless (get_or facts l.0 []) (good_bytes (get_or facts l.0 []) (each_at good_name facts [] good l.0 h)))

  all_spaceless : (ls : List Literal) (s t : State) → Adds (length facts) s ls t → AllByRecursion (Free 32) (map (spell facts) ls)
  all_spaceless [] s t a = tt
  all_spaceless (l ∷ ls) s t a = (spell_spaceless l a.0, all_spaceless ls (set s l.0 (sign l.1)) t a.2)

  not_dot : (l : Literal) (ls : List Literal) → same_name (join 32 (map (spell facts) (l ∷ ls))) (46 ∷ []) ≡ false
  not_dot l [] = go l.1
    where
      go : (b : Bool) → same_name (sign_byte b ∷ get_or facts l.0 []) (46 ∷ []) ≡ false
      go true = refl
      go false = refl
  not_dot l (m ∷ ls) = go l.1
    where
      go : (b : Bool) → same_name ((sign_byte b ∷ get_or facts l.0 []) ++ 32 ∷ join 32 (map (spell facts) (m ∷ ls))) (46 ∷ []) ≡ false
      go true = refl
      go false = refl

  pub field_spelt : (f : List ℕ) (t : State) → Denotes facts f t → state_field facts at f ≡ Ok t
  field_spelt f t (inl h) = ap (state_field facts at) h.0 ∙ ap Ok (sym h.1)
  field_spelt f t (inr h) =
      let free = all_spaceless (h.first ∷ h.rest) nothing t h.adds in
      ap (state_field facts at) h.field
      ∙ ap (λ x. parted x facts at (join 32 (map (spell facts) (h.first ∷ h.rest)))) (not_dot h.first h.rest)
      ∙ ap (λ ps. literals facts at ps nothing) (parts_join 32 (spell facts h.first) (map (spell facts) h.rest) free.0 free.1)
      ∙ literals_spelt (h.first ∷ h.rest) nothing t h.adds

  -- a field that spells a state has bytes from 20 to 7E only
  sign_plain : (b : Bool) → plain_byte (sign_byte b) ≡ true
  sign_plain true = refl
  sign_plain false = refl

  spell_plain : (l : Literal) → l.0 < length facts → each plain_byte (spell facts l) ≡ true
  spell_plain l h = and_from (plain_byte (sign_byte l.1)) (each plain_byte (get_or facts l.0 [])) (sign_plain l.1) (good_plain (get_or facts l.0 []) (each_at good_name facts [] good l.0 h))

  join_plain : (ls : List Literal) (s t : State) → Adds (length facts) s ls t → each plain_byte (join 32 (map (spell facts) ls)) ≡ true
  join_plain [] s t a = refl
  join_plain (l ∷ []) s t a = spell_plain l a.0
  join_plain (l ∷ m ∷ ls) s t a = each_append plain_byte (spell facts l) (32 ∷ join 32 (map (spell facts) (m ∷ ls))) (spell_plain l a.0) (join_plain (m ∷ ls) (set s l.0 (sign l.1)) t a.2)

  pub field_plain : (f : List ℕ) (t : State) → Denotes facts f t → each plain_byte f ≡ true
  field_plain f t (inl h) = ap (each plain_byte) h.0
  field_plain f t (inr h) = ap (each plain_byte) h.field ∙ join_plain (h.first ∷ h.rest) nothing t h.adds

-- what comes out as the definition says is read exactly where the field spells it
pub spells_read : (facts : List (List ℕ)) (at : Place) (f : List ℕ) (r : Result State TextFault) → r ≡ state_field facts at f → SpellsExactly facts f r
spells_read facts at f r e p l s = (λ h. field_read facts at f s (sym e ∙ h), λ d. e ∙ field_spelt facts p l at f s d)
