-- A state field is read exactly where it spells a state.
use Rattle.std.proofs.Common.{◌≡◌, ℕ, zero, suc, ◌+◌, ◌<◌, Bool, true, false, cond, not, eqb, leb, List, [], ◌∷◌, map, length, get_or, set, Some, None, Ok, Err, Option, Result, sym, refl, ap, ◌∙◌, subst, inl, inr, arith}
use Rattle.std.proofs.lemmas.Bool.{eqb-true, both_ways}
use Rattle.facts.specs.declared.mark.Mark.{Mark}
use Rattle.facts.specs.declared.mark.Mark.TheVariants.{Unnamed}
use Rattle.facts.specs.declared.state.LiteralFault.{LiteralFault}
use Rattle.facts.specs.declared.state.LiteralFault.TheVariants.{FactPast, FactNamed}
use Rattle.facts.specs.States.{State, mark, named, sign, nothing, added}
use Rattle.text.specs.declared.fault.Place.{Place}
use Rattle.text.specs.declared.fault.TextFault.{TextFault}
use Rattle.text.specs.declared.fault.TextFault.TheVariants.{BadName, NoSign, UnknownName}
use Rattle.text.specs.Chains.{then, then_in, unless, or_else}
use Rattle.text.specs.Lines.{parts}
use Rattle.text.specs.Spelling.{join}
use Rattle.text.proofs.Joins.{some_part, join_parts}
use Rattle.names.specs.Names.{good_name, same_name, found_from, found_at, FirstOf}
use Rattle.names.specs.Literals.{sign_of, unsigned, name_of, not_added, literal, literals, parted, state_field}
use Rattle.names.specs.Spelling.{Literal, sign_byte, spell, Adds, Spelt, Denotes}
use Rattle.names.proofs.Bytes.{same_true, true_same}

-- what a search finds
pub record Found (j : ℕ) (n : List ℕ) (xs : List (List ℕ)) (i : ℕ) : Type 0 where
  pub place : ℕ
  pub counted : i ≡ j + place
  pub below : place < length xs
  pub is : get_or xs place [] ≡ n
  pub earlier : (k : ℕ) → k < place → get_or xs k [] ≡ n → ⊥

pub found_is : (j : ℕ) (n : List ℕ) (xs : List (List ℕ)) (i : ℕ) → found_from j n xs ≡ Some i → Found j n xs i
found_is j n [] i e = absurd (cc)
found_is j n (x ∷ xs) i e = go (λ h. found_is (j + 1) n xs i h) (same_name x n) refl e
  where
    before : {p : ℕ} → same_name x n ≡ false → ((k : ℕ) → k < p → get_or xs k [] ≡ n → ⊥) → (k : ℕ) → k < suc p → get_or (x ∷ xs) k [] ≡ n → ⊥
    before s f zero l h = both_ways (same_name x n) s (ap (same_name x) (sym h) ∙ true_same x)
    before s f (suc k) l h = f k (omega arith) h

    go : (found_from (j + 1) n xs ≡ Some i → Found (j + 1) n xs i) → (t : Bool) → same_name x n ≡ t → cond t (Some j) (found_from (j + 1) n xs) ≡ Some i → Found j n (x ∷ xs) i
    go next true s h = let same : j ≡ i = cc in record { place = 0; counted = omega arith; below = omega arith; is = same_true x n s; earlier = λ k l. absurd (omega arith) }
    go next false s h = let f = next h in record { place = suc f.place; counted = omega (arith, f.counted); below = omega (arith, f.below); is = f.is; earlier = before s f.earlier }

pub found_none : (j : ℕ) (n : List ℕ) (xs : List (List ℕ)) → found_from j n xs ≡ None → (i : ℕ) → i < length xs → get_or xs i [] ≡ n → ⊥
found_none j n [] e i l h = absurd (omega arith)
found_none j n (x ∷ xs) e i l h = go (λ f k m. found_none (j + 1) n xs f k m) (same_name x n) refl e i l h
  where
    go : (found_from (j + 1) n xs ≡ None → (k : ℕ) → k < length xs → get_or xs k [] ≡ n → ⊥) → (t : Bool) → same_name x n ≡ t → cond t (Some j) (found_from (j + 1) n xs) ≡ None → (i : ℕ) → i < length (x ∷ xs) → get_or (x ∷ xs) i [] ≡ n → ⊥
    go next true s f i l h = absurd (cc)
    go next false s f zero l h = both_ways (same_name x n) s (ap (same_name x) (sym h) ∙ true_same x)
    go next false s f (suc i) l h = next f i (omega arith) h

-- what a search answers
pub first_found : (xs : List (List ℕ)) (n : List ℕ) → FirstOf xs n (found_at n xs)
first_found xs n = go (found_at n xs) refl
  where
    go : (o : Option ℕ) → found_at n xs ≡ o → FirstOf xs n o
    go None e = found_none 0 n xs e
    go (Some i) e =
        let f = found_is 0 n xs i e in
        let same : f.place ≡ i = omega (arith, f.counted) in
        (omega (arith, f.below), ap (λ k. get_or xs k []) (sym same) ∙ f.is, λ k l. f.earlier k (omega arith))

pub sign_spelt : (l : List ℕ) (b : Bool) → sign_of l ≡ Some b → l ≡ sign_byte b ∷ name_of l
sign_spelt [] b e = absurd (cc)
sign_spelt (c ∷ s) b e = go (eqb c 43) refl (eqb c 45) refl e
  where
    go : (x : Bool) → eqb c 43 ≡ x → (y : Bool) → eqb c 45 ≡ y → cond x (Some true) (cond y (Some false) None) ≡ Some b → c ∷ s ≡ sign_byte b ∷ unsigned (sign_of (c ∷ s)) (c ∷ s)
    go true p y q h =
        let same : true ≡ b = cc in
        (λ d. eqb-true c 43 p d ∷ s) ∙ ap (λ x. sign_byte x ∷ s) same ∙ ap (λ o. sign_byte b ∷ unsigned o (c ∷ s)) (sym e)
    go false p true q h =
        let same : false ≡ b = cc in
        (λ d. eqb-true c 45 q d ∷ s) ∙ ap (λ x. sign_byte x ∷ s) same ∙ ap (λ o. sign_byte b ∷ unsigned o (c ∷ s)) (sym e)
    go false p false q h = absurd (cc)

unnamed_false : (m : Mark) → named m ≡ false → m ≡ Unnamed
unnamed_false m h = grind arith

pub added_is : (s t : State) (i : ℕ) (b : Bool) → added s i b ≡ Ok t → (mark s i ≡ Unnamed) × (t ≡ set s i (sign b))
added_is s t i b e = go (leb 256 i) (named (mark s i)) refl e
  where
    go : (x y : Bool) → named (mark s i) ≡ y → cond x (Err FactPast) (cond y (Err FactNamed) (Ok (set s i (sign b)))) ≡ Ok t → (mark s i ≡ Unnamed) × (t ≡ set s i (sign b))
    go true y n h = absurd (cc)
    go false true n h = absurd (cc)
    go false false n h = let same : set s i (sign b) ≡ t = cc in (unnamed_false (mark s i) n, sym same)

-- a literal that was read
pub record One (facts : List (List ℕ)) (l : List ℕ) (s t : State) : Type 0 where
  pub fact : ℕ
  pub plus : Bool
  pub spelt : l ≡ spell facts (fact, plus)
  pub below : fact < length facts
  pub unnamed : mark s fact ≡ Unnamed
  pub state : t ≡ set s fact (sign plus)

pub literal_read : (facts : List (List ℕ)) (at : Place) (l : List ℕ) (s t : State) → literal facts at l s ≡ Ok t → One facts l s t
literal_read facts at l s t e = named_so (not (good_name (name_of l))) e
  where
    put : (b : Bool) (i : ℕ) → sign_of l ≡ Some b → found_at (name_of l) facts ≡ Some i → (r : Result State LiteralFault) → added s i b ≡ r → then_in (not_added at) r (λ u. Ok u) ≡ Ok t → One facts l s t
    put b i g f (Ok u) a k =
        let same : u ≡ t = cc in
        let found = found_is 0 (name_of l) facts i f in
        let there : found.place ≡ i = omega (arith, found.counted) in
        let done = added_is s u i b a in
        record {
          fact = i;
          plus = b;
          spelt = sign_spelt l b g ∙ ap (λ n. sign_byte b ∷ n) (sym (ap (λ k. get_or facts k []) (sym there) ∙ found.is));
          below = omega (arith, found.below);
          unnamed = done.0;
          state = sym same ∙ done.1;
        }
    put b i g f (Err x) a k = absurd (cc)

    stored : (b : Bool) → sign_of l ≡ Some b → (o : Option ℕ) → found_at (name_of l) facts ≡ o → or_else o (UnknownName at) (λ i. then_in (not_added at) (added s i b) (λ u. Ok u)) ≡ Ok t → One facts l s t
    stored b g None f h = absurd (cc)
    stored b g (Some i) f h = put b i g f (added s i b) refl h

    signed : (o : Option Bool) → sign_of l ≡ o → or_else o (NoSign at) (λ b. or_else (found_at (name_of l) facts) (UnknownName at) (λ i. then_in (not_added at) (added s i b) (λ u. Ok u))) ≡ Ok t → One facts l s t
    signed None g h = absurd (cc)
    signed (Some b) g h = stored b g (found_at (name_of l) facts) refl h

    named_so : (x : Bool) → then (unless x (BadName at) (λ _. Ok (name_of l))) (λ n. or_else (sign_of l) (NoSign at) (λ b. or_else (found_at n facts) (UnknownName at) (λ i. then_in (not_added at) (added s i b) (λ u. Ok u)))) ≡ Ok t → One facts l s t
    named_so true h = absurd (cc)
    named_so false h = signed (sign_of l) refl h

-- literals that were read
pub record SomeRead (facts : List (List ℕ)) (ls : List (List ℕ)) (s t : State) : Type 0 where
  pub all : List Literal
  pub spelt : ls ≡ map (spell facts) all
  pub adds : Adds (length facts) s all t

one_more : (facts : List (List ℕ)) (l : List ℕ) (ls : List (List ℕ)) (s u t : State) → One facts l s u → SomeRead facts ls u t → SomeRead facts (l ∷ ls) s t
one_more facts l ls s u t o m =
    record {
      all = (o.fact, o.plus) ∷ m.all;
      spelt = λ d. o.spelt d ∷ m.spelt d;
      adds = (o.below, o.unnamed, subst (λ (x : State). Adds (length facts) x m.all t) o.state m.adds);
    }

pub literals_read : (facts : List (List ℕ)) (at : Place) (ls : List (List ℕ)) (s t : State) → literals facts at ls s ≡ Ok t → SomeRead facts ls s t
literals_read facts at [] s t e = let same : s ≡ t = cc in record { all = []; spelt = refl; adds = sym same }
literals_read facts at (l ∷ ls) s t e = go (λ u h. literals_read facts at ls u t h) (literal facts at l s) refl e
  where
    go : ((u : State) → literals facts at ls u ≡ Ok t → SomeRead facts ls u t) → (r : Result State TextFault) → literal facts at l s ≡ r → then r (λ u. literals facts at ls u) ≡ Ok t → SomeRead facts (l ∷ ls) s t
    go next (Ok u) h k = one_more facts l ls s u t (literal_read facts at l s u h) (next u k)
    go next (Err x) h k = absurd (cc)

pub field_read : (facts : List (List ℕ)) (at : Place) (f : List ℕ) (t : State) → state_field facts at f ≡ Ok t → Denotes facts f t
field_read facts at f t e = go (same_name f (46 ∷ [])) refl e
  where
    spelt : (all : List Literal) → parts 32 f ≡ map (spell facts) all → Adds (length facts) nothing all t → Spelt facts f t
    spelt [] p a = let r = some_part 32 f in let q = ap (λ (l : List (List ℕ)). length l) (sym p ∙ r.2) in absurd (omega arith)
    spelt (l ∷ ls) p a = record { first = l; rest = ls; field = sym (join_parts 32 f) ∙ ap (join 32) p; adds = a }

    go : (x : Bool) → same_name f (46 ∷ []) ≡ x → parted x facts at f ≡ Ok t → Denotes facts f t
    go true s h = let same : nothing ≡ t = cc in inl (same_true f (46 ∷ []) s, sym same)
    go false s h = let m = literals_read facts at (parts 32 f) nothing t h in inr (spelt m.all m.spelt m.adds)
