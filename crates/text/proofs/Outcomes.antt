-- What the look over a text finds, in each of its outcomes.
use Rattle.std.proofs.Common.{◌≡◌, ℕ, suc, ◌+◌, ◌≤◌, Bool, true, false, cond, ◌&&◌, ◌||◌, eqb, ltb, leb, List, [], ◌∷◌, length, Ok, Err, Result, sym, refl, ap, ◌∙◌, subst, arith}
use Rattle.std.specs.List.{AllByRecursion}
use Rattle.std.proofs.lemmas.Bool.{and_parts, and_from, ltb-true, ltb-false}
use Rattle.text.specs.declared.fault.TextFault.{TextFault}
use Rattle.text.specs.declared.fault.TextFault.TheVariants.{TooLong, BadByte, Unended, BadName, NoSign, UnknownName, FactTwice}
use Rattle.text.specs.Chains.{then, unless}
use Rattle.text.specs.Lines.{onto, cutting, lines}
use Rattle.text.specs.Lists.{each}
use Rattle.text.specs.Looks.{Cursor, by_kind, passed, start, ended, looked, text_byte, newlines, field_after, FirstBad, Looks}
use Rattle.text.specs.Looks.Kind.{newline, tab, plain, bad}
use Rattle.text.specs.Spelling.{closed}
use Rattle.text.proofs.Looking.{looked_at}
use Rattle.text.proofs.Endings.{line_byte, looked_whole, looked_closed}

-- where the end of s stands, and its bytes
record Passed (c d : Cursor) (s : List ℕ) : Type 0 where
  bytes : each text_byte s ≡ true
  line : d.line ≡ c.line + newlines s

-- what a walk over s from c comes to
abbrev Walks : Cursor → List ℕ → Result Cursor TextFault → Type 0
Walks c s (Ok d) = Passed c d s
Walks c s (Err (BadByte at)) = FirstBad c.line c.field s at
Walks c s (Err TooLong) = ⊥
Walks c s (Err (Unended line)) = ⊥
Walks c s (Err (BadName at)) = ⊥
Walks c s (Err (NoSign at)) = ⊥
Walks c s (Err (UnknownName at)) = ⊥
Walks c s (Err (FactTwice at)) = ⊥

-- one good byte in front, from c to m
module _ (c m : Cursor) (b : ℕ) (s : List ℕ) (good : text_byte b ≡ true) (line : (n : ℕ) → m.line + n ≡ c.line + cond (eqb b 10) (suc n) n) (field : (t : List ℕ) → field_after m.field t ≡ field_after c.field (b ∷ t)) where
  walk_on : (r : Result Cursor TextFault) → Walks m s r → Walks c (b ∷ s) r
  walk_on (Ok d) w = record { bytes = and_from (text_byte b) (each text_byte s) good w.bytes; line = w.line ∙ line (newlines s) }
  walk_on (Err (BadByte at)) w =
      record {
        before = b ∷ w.before;
        byte = w.byte;
        after = w.after;
        split = ap (λ t. b ∷ t) w.split;
        good = and_from (text_byte b) (each text_byte w.before) good w.good;
        bad = w.bad;
        line = w.line ∙ line (newlines w.before);
        field = w.field ∙ field w.before;
      }
  walk_on (Err TooLong) w = w
  walk_on (Err (Unended l)) w = w
  walk_on (Err (BadName at)) w = w
  walk_on (Err (NoSign at)) w = w
  walk_on (Err (UnknownName at)) w = w
  walk_on (Err (FactTwice at)) w = w

walks : (c : Cursor) (s : List ℕ) → Walks c s (passed c s)
walks c [] = record { bytes = refl; line = omega arith }
walks c (b ∷ s) = go (λ m. walks m s) (eqb b 10) refl (eqb b 9) refl (leb 32 b && leb b 126) refl
  where
    go : ((m : Cursor) → Walks m s (passed m s)) → (x : Bool) → eqb b 10 ≡ x → (y : Bool) → eqb b 9 ≡ y → (z : Bool) → (leb 32 b && leb b 126) ≡ z → Walks c (b ∷ s) (then (by_kind (cond x newline (cond y tab (cond z plain bad))) c) (λ d. passed d s))
    go next true e y f z g =
        let m : Cursor = record { line = c.line + 1; field = 1; fresh = true } in
        walk_on c m b s (λ d. e d || (eqb b 9 || (leb 32 b && leb b 126)))
        (λ n. let q : c.line + 1 + n ≡ c.line + suc n = omega arith in q ∙ sym (ap (λ t. c.line + cond t (suc n) n) e))
        (λ t. sym (ap (λ x. cond x (field_after 1 t) (cond (eqb b 9) (field_after (c.field + 1) t) (field_after c.field t))) e))
        (passed m s) (next m)
    go next false e true f z g =
        let m : Cursor = record { line = c.line; field = c.field + 1; fresh = false } in
        walk_on c m b s (λ d. e d || (f d || (leb 32 b && leb b 126)))
        (λ n. sym (ap (λ t. c.line + cond t (suc n) n) e))
        (λ t. sym (λ d. cond (e d) (field_after 1 t) (cond (f d) (field_after (c.field + 1) t) (field_after c.field t))))
        (passed m s) (next m)
    go next false e false f true g =
        let m : Cursor = record { line = c.line; field = c.field; fresh = false } in
        walk_on c m b s (λ d. e d || (f d || g d))
        (λ n. sym (ap (λ t. c.line + cond t (suc n) n) e))
        (λ t. sym (λ d. cond (e d) (field_after 1 t) (cond (f d) (field_after (c.field + 1) t) (field_after c.field t))))
        (passed m s) (next m)
    go next false e false f false g =
        record { before = []; byte = b; after = s; split = refl; good = refl; bad = λ d. e d || (f d || g d); line = omega arith; field = refl }

-- the lines of bytes that a text may have
onto_lined : (b : ℕ) (ls : List (List ℕ)) → line_byte b ≡ true → AllByRecursion (λ l. each line_byte l ≡ true) ls → AllByRecursion (λ l. each line_byte l ≡ true) (onto b ls)
onto_lined b [] h k = (and_from (line_byte b) true h refl, tt)
onto_lined b (l ∷ ls) h k = (and_from (line_byte b) (each line_byte l) h k.0, k.1)

lines_lined : (s : List ℕ) → each text_byte s ≡ true → AllByRecursion (λ l. each line_byte l ≡ true) (lines s)
lines_lined [] h = tt
lines_lined (b ∷ s) h =
    let q = and_parts (text_byte b) (each text_byte s) h in
    go (lines_lined s q.1) (eqb b 10) refl q.0
  where
    go : AllByRecursion (λ l. each line_byte l ≡ true) (lines s) → (x : Bool) → eqb b 10 ≡ x → text_byte b ≡ true → AllByRecursion (λ l. each line_byte l ≡ true) (cutting x b (lines s))
    go k true e g = (refl, k)
    go k false e g = onto_lined b (lines s) (sym (λ d. e d || line_byte b) ∙ g) k

pub looks_so : (s : List ℕ) → Looks s (looked s)
looks_so s = long (ltb 1048576 (length s)) refl
  where
    last : (d : Cursor) → length s ≤ 1048576 → passed start s ≡ Ok d → Passed start d s → (x : Bool) → d.fresh ≡ x → Looks s (cond x (Ok tt) (Err (Unended d.line)))
    last d l h w true e =
        let done : looked s ≡ Ok tt = looked_at s l ∙ ap (λ r. then r ended) h ∙ ap (λ x. cond x (Ok tt) (Err (Unended d.line))) e in
        record { short = l; bytes = w.bytes; lined = (looked_whole s done).lined }
    last d l h w false e = (l, w.bytes, open_end, w.line)
      where
        open_end : closed (lines s) ≡ s → ⊥
        open_end c =
            let ok : looked s ≡ Ok tt = sym (ap looked c) ∙ looked_closed (lines s) (subst (λ (z : List ℕ). length z ≤ 1048576) (sym c) l) (lines_lined s w.bytes) in
            let not_ok : looked s ≡ Err (Unended d.line) = looked_at s l ∙ ap (λ r. then r ended) h ∙ ap (λ x. cond x (Ok tt) (Err (Unended d.line))) e in
            cc

    through : length s ≤ 1048576 → (r : Result Cursor TextFault) → passed start s ≡ r → Walks start s r → Looks s (then r ended)
    through l (Ok d) h w = last d l h w d.fresh refl
    through l (Err (BadByte at)) h w = (l, w)
    through l (Err TooLong) h w = absurd w
    through l (Err (Unended line)) h w = absurd w
    through l (Err (BadName at)) h w = absurd w
    through l (Err (NoSign at)) h w = absurd w
    through l (Err (UnknownName at)) h w = absurd w
    through l (Err (FactTwice at)) h w = absurd w

    long : (x : Bool) → ltb 1048576 (length s) ≡ x → Looks s (unless x TooLong (λ _. then (passed start s) ended))
    long true l = ltb-true 1048576 (length s) l
    long false l = through (ltb-false 1048576 (length s) l) (passed start s) refl (walks start s)

pub looks_of : (s : List ℕ) (r : Result (Unit {0}) TextFault) → r ≡ looked s → Looks s r
looks_of s r is = subst (Looks s) (sym is) (looks_so s)
