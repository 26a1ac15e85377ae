-- A text without fault is its lines, each ended; and lines of bytes that a text has make one.
use Rattle.std.proofs.Common.{◌≡◌, ℕ, ◌+◌, ◌≤◌, Bool, true, false, cond, ◌&&◌, ◌||◌, eqb, ltb, leb, List, [], ◌∷◌, ◌++◌, length, Ok, Err, Result, sym, refl, ap, ◌∙◌, arith}
use Rattle.std.specs.List.{AllByRecursion}
use Rattle.std.proofs.lemmas.Bool.Decides.{nat_tests}
use Rattle.std.proofs.lemmas.Bool.{and_parts, eqb-true, ltb-false, both_ways}
use Rattle.text.specs.declared.fault.TextFault.{TextFault}
use Rattle.text.specs.declared.fault.TextFault.TheVariants.{TooLong, Unended}
use Rattle.text.specs.Chains.{then, unless}
use Rattle.text.specs.Lines.{onto, cutting, lines}
use Rattle.text.specs.Lists.{each}
use Rattle.text.specs.Looks.{Cursor, Kind, kind_of, by_kind, stepped, passed, start, ended, looked}
use Rattle.text.specs.Looks.Kind.{newline, tab, plain, bad}
use Rattle.text.specs.Spelling.{closed}
use Rattle.text.proofs.Joins.{Free}
use Rattle.text.proofs.Looking.{looked_at}

-- a byte of a line: 20 to 7E, or 09
abbrev pub line_byte : ℕ → Bool
line_byte b = eqb b 9 || (leb 32 b && leb b 126)

free_byte : (b : ℕ) → line_byte b ≡ true → b ≡ 10 → ⊥
free_byte b h e = grind (arith, nat_tests)

pub line_free : (l : List ℕ) → each line_byte l ≡ true → Free 10 l
line_free [] h = tt
line_free (b ∷ l) h = let q = and_parts (line_byte b) (each line_byte l) h in (free_byte b q.0, line_free l q.1)

-- where the next line begins
abbrev next_line : Cursor → Cursor
next_line c = record { line = c.line + 1; field = 1; fresh = true }

data Inner : Kind → Type 0 where
  is_tab : Inner tab
  is_plain : Inner plain

inner : (b : ℕ) → line_byte b ≡ true → Inner (kind_of b)
inner b h = go (eqb b 10) refl (eqb b 9) refl (leb 32 b && leb b 126) refl
  where
    go : (x : Bool) → eqb b 10 ≡ x → (y : Bool) → eqb b 9 ≡ y → (z : Bool) → (leb 32 b && leb b 126) ≡ z → Inner (cond x newline (cond y tab (cond z plain bad)))
    go true e y f z g = absurd (free_byte b h (eqb-true b 10 e))
    go false e true f z g = is_tab
    go false e false f true g = is_plain
    go false e false f false g = absurd (both_ways (line_byte b) ((λ d. f d || g d)) h)

passed_line : (c : Cursor) (l s : List ℕ) → each line_byte l ≡ true → passed c (l ++ 10 ∷ s) ≡ passed (next_line c) s
passed_line c [] s h = refl
passed_line c (b ∷ l) s h = go (λ d. passed_line d l s (and_parts (line_byte b) (each line_byte l) h).1) (kind_of b) (inner b (and_parts (line_byte b) (each line_byte l) h).0)
  where
    go : ((d : Cursor) → passed d (l ++ 10 ∷ s) ≡ passed (next_line d) s) → (k : Kind) → Inner k → then (by_kind k c) (λ d. passed d (l ++ 10 ∷ s)) ≡ passed (next_line c) s
    go next newline i = elim i [ ]
    go next bad i = elim i [ ]
    go next tab is_tab = next (record { line = c.line; field = c.field + 1; fresh = false })
    go next plain is_plain = next (record { line = c.line; field = c.field; fresh = false })

passed_lines : (c : Cursor) (ls : List (List ℕ)) → c.fresh ≡ true → AllByRecursion (λ l. each line_byte l ≡ true) ls → then (passed c (closed ls)) ended ≡ Ok tt
passed_lines c [] f h = ap (λ x. cond x (Ok tt) (Err (Unended c.line))) f
passed_lines c (l ∷ ls) f h = ap (λ r. then r ended) (passed_line c l (closed ls) h.0) ∙ passed_lines (next_line c) ls refl h.1

pub looked_closed : (ls : List (List ℕ)) → length (closed ls) ≤ 1048576 → AllByRecursion (λ l. each line_byte l ≡ true) ls → looked (closed ls) ≡ Ok tt
looked_closed ls h k = looked_at (closed ls) h ∙ passed_lines start ls refl k

-- the other way: a text that ends fresh is its lines, each ended
record Ends (c d : Cursor) (s : List ℕ) : Type 0 where
  none : s ≡ [] → d ≡ c
  some : (s ≡ [] → ⊥) → d.fresh ≡ true → closed (lines s) ≡ s

onto_closed : (b : ℕ) (ls : List (List ℕ)) (s : List ℕ) → (s ≡ [] → ⊥) → closed ls ≡ s → closed (onto b ls) ≡ b ∷ s
onto_closed b [] s n e = absurd (n (sym e))
onto_closed b (l ∷ ls) s n e = ap (λ x. b ∷ x) e

cut_closed : (b : ℕ) (s : List ℕ) → (s ≡ [] → ⊥) → closed (lines s) ≡ s → closed (cutting (eqb b 10) b (lines s)) ≡ b ∷ s
cut_closed b s n e = go (eqb b 10) refl
  where
    go : (t : Bool) → eqb b 10 ≡ t → closed (cutting t b (lines s)) ≡ b ∷ s
    go true h = λ d. sym (eqb-true b 10 h) d ∷ e d
    go false h = onto_closed b (lines s) s n e

last_closed : (b : ℕ) (c d : Cursor) → Ok d ≡ stepped c b → d.fresh ≡ true → closed (lines (b ∷ [])) ≡ b ∷ []
last_closed b c d e f = go (eqb b 10) refl
  where
    stale : (k : Kind) → (k ≡ newline → ⊥) → Ok d ≡ by_kind k c → ⊥
    stale newline n h = n refl
    stale tab n h = let same : d ≡ record { line = c.line; field = c.field + 1; fresh = false } = cc in both_ways d.fresh (ap (λ x. x.fresh) same) f
    stale plain n h = let same : d ≡ record { line = c.line; field = c.field; fresh = false } = cc in both_ways d.fresh (ap (λ x. x.fresh) same) f
    stale bad n h = cc

    other : (y z : Bool) → cond y tab (cond z plain bad) ≡ newline → ⊥
    other true z h = cc
    other false true h = cc
    other false false h = cc

    go : (t : Bool) → eqb b 10 ≡ t → closed (cutting t b []) ≡ b ∷ []
    go true h = λ i. sym (eqb-true b 10 h) i ∷ []
    go false h = absurd (stale (cond false newline (cond (eqb b 9) tab (cond (leb 32 b && leb b 126) plain bad))) (other (eqb b 9) (leb 32 b && leb b 126)) (e ∙ ap (λ t. by_kind (cond t newline (cond (eqb b 9) tab (cond (leb 32 b && leb b 126) plain bad))) c) h))

ends : (c d : Cursor) (s : List ℕ) → passed c s ≡ Ok d → Ends c d s
ends c d [] e = let same : c ≡ d = cc in record { none = λ _. sym same; some = λ n _. absurd (n refl) }
ends c d (b ∷ s) e = go (λ m h. ends m d s h) (stepped c b) refl e
  where
    nonempty : (b ∷ s ≡ []) → ⊥
    nonempty h = cc

    both : (m : Cursor) → stepped c b ≡ Ok m → Ends m d s → (t : List ℕ) → s ≡ t → d.fresh ≡ true → closed (lines (b ∷ s)) ≡ b ∷ s
    both m h r [] q f = ap (λ t. closed (lines (b ∷ t))) q ∙ last_closed b c d (sym (h ∙ ap Ok (sym (r.none q)))) f ∙ sym (ap (λ t. b ∷ t) q)
    both m h r (x ∷ t) q f =
        let n : s ≡ [] → ⊥ = λ z. cc in
        cut_closed b s n (r.some n f)

    go : ((m : Cursor) → passed m s ≡ Ok d → Ends m d s) → (r : Result Cursor TextFault) → stepped c b ≡ r → then r (λ m. passed m s) ≡ Ok d → Ends c d (b ∷ s)
    go next (Ok m) h k = record { none = λ z. absurd (nonempty z); some = λ _ f. both m h (next m k) s refl f }
    go next (Err x) h k = absurd (cc)

pub record Whole (s : List ℕ) : Type 0 where
  pub short : length s ≤ 1048576
  pub lined : closed (lines s) ≡ s

pub looked_whole : (s : List ℕ) → looked s ≡ Ok tt → Whole s
looked_whole s e = long (ltb 1048576 (length s)) refl e
  where
    fresh : (d : Cursor) → ended d ≡ Ok tt → d.fresh ≡ true
    fresh d h = go d.fresh h
      where
        go : (x : Bool) → ◌≡◌ {A = Result (Unit {0}) TextFault} (cond x (Ok tt) (Err (Unended d.line))) (Ok tt) → x ≡ true
        go true k = refl
        go false k = absurd (cc)

    lined : (d : Cursor) → passed start s ≡ Ok d → ended d ≡ Ok tt → (t : List ℕ) → s ≡ t → closed (lines s) ≡ s
    lined d h k [] q = ap (λ t. closed (lines t)) q ∙ sym q
    lined d h k (x ∷ t) q = (ends start d s h).some (λ z. cc) (fresh d k)

    through : (r : Result Cursor TextFault) → passed start s ≡ r → then r ended ≡ Ok tt → closed (lines s) ≡ s
    through (Ok d) h k = lined d h k s refl
    through (Err x) h k = absurd (cc)

    long : (x : Bool) → ltb 1048576 (length s) ≡ x → unless x TooLong (λ _. then (passed start s) ended) ≡ Ok tt → Whole s
    long true l h = absurd (cc)
    long false l h = record { short = ltb-false 1048576 (length s) l; lined = through (passed start s) refl h }
