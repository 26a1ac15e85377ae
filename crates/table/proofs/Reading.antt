-- What is read as a table is the text of that table.
use Rattle.std.proofs.Common.{◌≡◌, ℕ, ◌+◌, ◌<◌, ◌≤◌, true, false, eqb, ltb, List, [], ◌∷◌, ◌++◌, map, length, get_or, is_some, Some, None, Ok, Option, sym, refl, ap, ◌∙◌, subst, append_assoc, append-nil, arith}
use Rattle.std.proofs.lemmas.Bool.{eqb-true, ltb-false, leb-false, not-false}
use Rattle.std.proofs.lemmas.List.{map_push, length_push}
use Rattle.facts.specs.Worlds.{Job}
use Rattle.text.specs.declared.tag.Tag.{Tag}
use Rattle.text.specs.declared.tag.Tag.TheVariants.{N, D, B, G, E, W, S, C, F, A, H}
use Rattle.text.specs.Lines.{lines, fields}
use Rattle.text.specs.Tags.{tag_of}
use Rattle.text.specs.Spelling.{join}
use Rattle.text.proofs.Undoing.{then_ok, then_in_ok, unless_ok, same_ok}
use Rattle.text.proofs.Lists.{two, four}
use Rattle.text.proofs.Joins.{join_parts}
use Rattle.text.proofs.Tags.{tag_letter}
use Rattle.text.proofs.Endings.{looked_whole}
use Rattle.names.specs.Names.{good_name, found_at, proper_names}
use Rattle.names.proofs.Reading.{field_read}
use Rattle.table.specs.Rows.{Row, job_names}
use Rattle.table.specs.Tables.{Table, no_rows, with_fact, with_job, place, new_name, fact_line, job_line, by_tag, table_line, table_lines, read_table}
use Rattle.table.specs.Grammar.{fact_text, job_text, JobLine, JobLines, LinesOf, TextOf}
use Rattle.table.proofs.Storing.{proper_push}

-- a name that was read
record New (names : List (List ℕ)) (f n : List ℕ) : Type 0 where
  is : n ≡ f
  good : good_name f ≡ true
  fresh : is_some (found_at f names) ≡ false

name_read : (names : List (List ℕ)) (f n : List ℕ) (line : ℕ) → new_name names f (place line 2) ≡ Ok n → New names f n
name_read names f n line h =
    let a = then_in_ok _ _ _ _ h in
    let b = unless_ok _ _ _ _ a.first in
    let c = unless_ok _ _ _ _ a.second in
    let e : f ≡ a.value = same_ok _ _ b.second in
    let g : a.value ≡ n = same_ok _ _ c.second in
    record { is = sym (e ∙ g); good = not-false (good_name f) b.test; fresh = ap (λ x. is_some (found_at x names)) e ∙ c.test }

no_lines : (facts ls : List (List ℕ)) (rs : List Row) → JobLines facts ls rs → length rs ≡ 0 → (ls ≡ []) × (rs ≡ [])
no_lines facts [] [] j h = (refl, refl)
no_lines facts [] (r ∷ rs) j h = absurd j
no_lines facts (l ∷ ls) [] j h = absurd j
no_lines facts (l ∷ ls) (r ∷ rs) j h = absurd (omega arith)

lines_push : (facts ls : List (List ℕ)) (rs : List Row) (l : List ℕ) (r : Row) → JobLines facts ls rs → JobLine facts l r → JobLines facts (ls ++ l ∷ []) (rs ++ r ∷ [])
lines_push facts [] [] l r j k = (k, tt)
lines_push facts [] (s ∷ rs) l r j k = absurd j
lines_push facts (m ∷ ls) [] l r j k = absurd j
lines_push facts (m ∷ ls) (s ∷ rs) l r j k = (j.0, lines_push facts ls rs l r j.1 k)

not_positive : (n : ℕ) → ltb 0 n ≡ false → n ≡ 0
not_positive n h = let z : n ≤ 0 = ltb-false 0 n h in omega arith

fact_read : (ls : List (List ℕ)) (t u : Table) (at : ℕ) (l : List ℕ) → tag_of l ≡ Some N → LinesOf ls t → fact_line t at (fields l) ≡ Ok u → LinesOf (ls ++ l ∷ []) u
fact_read ls t u at l tag o h =
    let a = unless_ok _ _ _ _ h in
    let b = unless_ok _ _ _ _ a.second in
    let c = unless_ok _ _ _ _ b.second in
    let d = then_ok _ _ _ c.second in
    let fs = fields l in
    let n = get_or fs 1 [] in
    let new = name_read t.facts n d.value at d.first in
    let none = no_lines t.facts o.job_lines t.jobs o.jobs (not_positive (length t.jobs) a.test) in
    let there : fs ≡ (78 ∷ []) ∷ n ∷ [] = two fs (eqb-true (length fs) 2 (not-false (eqb (length fs) 2) b.test)) ∙ ap (λ x. x ∷ n ∷ []) (tag_letter N (get_or fs 0 []) tag) in
    let line : l ≡ fact_text n = sym (join_parts 9 l) ∙ ap (join 9) there in
    let made : with_fact t n ≡ u = ap (with_fact t) (sym new.is) ∙ same_ok _ _ d.second in
    let lines : ls ++ l ∷ [] ≡ map fact_text (t.facts ++ n ∷ []) ++ [] =
    ap (λ x. x ++ l ∷ []) (o.all ∙ ap (λ x. map fact_text t.facts ++ x) none.0 ∙ append-nil (map fact_text t.facts))
    ∙ ap (λ x. map fact_text t.facts ++ x ∷ []) line
    ∙ sym (map_push fact_text t.facts n)
    ∙ sym (append-nil (map fact_text (t.facts ++ n ∷ []))) in
    let room : length t.facts < 256 = leb-false 256 (length t.facts) c.test in
    let longer : length (t.facts ++ n ∷ []) ≡ length t.facts + 1 = length_push t.facts n in
    subst (LinesOf (ls ++ l ∷ [])) made (record {
      few_facts = omega arith;
      few_jobs = o.few_jobs;
      facts_named = proper_push t.facts n o.facts_named new.good new.fresh;
      jobs_named = o.jobs_named;
      job_lines = [];
      all = lines;
      jobs = subst (λ (x : List Row). JobLines (t.facts ++ n ∷ []) [] x) (sym none.1) tt;
    })

job_read : (ls : List (List ℕ)) (t u : Table) (at : ℕ) (l : List ℕ) → tag_of l ≡ Some D → LinesOf ls t → job_line t at (fields l) ≡ Ok u → LinesOf (ls ++ l ∷ []) u
job_read ls t u at l tag o h =
    let a = unless_ok _ _ _ _ h in
    let b = unless_ok _ _ _ _ a.second in
    let c = then_ok _ _ _ b.second in
    let d = then_ok _ _ _ c.second in
    let p = then_in_ok _ _ _ _ d.first in
    let e = then_in_ok _ _ _ _ p.second in
    let fs = fields l in
    let n = get_or fs 1 [] in
    let new = name_read (job_names t.jobs) n c.value at c.first in
    let there : fs ≡ (68 ∷ []) ∷ n ∷ get_or fs 2 [] ∷ get_or fs 3 [] ∷ [] = four fs (eqb-true (length fs) 4 (not-false (eqb (length fs) 4) a.test)) ∙ ap (λ x. x ∷ n ∷ get_or fs 2 [] ∷ get_or fs 3 [] ∷ []) (tag_letter D (get_or fs 0 []) tag) in
    let line : l ≡ job_text n (get_or fs 2 []) (get_or fs 3 []) = sym (join_parts 9 l) ∙ ap (join 9) there in
    let j : Job = record { precondition = p.value; effect = e.value } in
    let job : j ≡ d.value = same_ok _ _ e.second in
    let r : Row = record { name = n; job = j } in
    let made : with_job t r ≡ u = (λ i. with_job t (record { name = sym new.is i; job = job i })) ∙ same_ok _ _ d.second in
    let row : JobLine t.facts l r = record { needs = get_or fs 2 []; sets = get_or fs 3 []; line = line; precondition = field_read t.facts (place at 3) (get_or fs 2 []) p.value p.first; effect = field_read t.facts (place at 4) (get_or fs 3 []) e.value e.first } in
    let room : length t.jobs < 128 = leb-false 128 (length t.jobs) b.test in
    let longer : length (t.jobs ++ r ∷ []) ≡ length t.jobs + 1 = length_push t.jobs r in
    subst (LinesOf (ls ++ l ∷ [])) made (record {
      few_facts = o.few_facts;
      few_jobs = omega arith;
      facts_named = o.facts_named;
      jobs_named = ap proper_names (map_push (λ (x : Row). x.name) t.jobs r) ∙ proper_push (job_names t.jobs) n o.jobs_named new.good new.fresh;
      job_lines = o.job_lines ++ l ∷ [];
      all = ap (λ x. x ++ l ∷ []) o.all ∙ append_assoc (map fact_text t.facts) o.job_lines (l ∷ []);
      jobs = lines_push t.facts o.job_lines t.jobs l r o.jobs row;
    })

line_read : (ls : List (List ℕ)) (t u : Table) (at : ℕ) (l : List ℕ) → LinesOf ls t → table_line t at l ≡ Ok u → LinesOf (ls ++ l ∷ []) u
line_read ls t u at l o h = go (tag_of l) refl h
  where
    go : (g : Option Tag) → tag_of l ≡ g → by_tag g t at (fields l) ≡ Ok u → LinesOf (ls ++ l ∷ []) u
    go (Some N) e k = fact_read ls t u at l e o k
    go (Some D) e k = job_read ls t u at l e o k
    go (Some B) e k = let z : ◌≡◌ {A = ℕ} 0 1 = cc in absurd (omega arith)
    go (Some G) e k = let z : ◌≡◌ {A = ℕ} 0 1 = cc in absurd (omega arith)
    go (Some E) e k = let z : ◌≡◌ {A = ℕ} 0 1 = cc in absurd (omega arith)
    go (Some W) e k = let z : ◌≡◌ {A = ℕ} 0 1 = cc in absurd (omega arith)
    go (Some S) e k = let z : ◌≡◌ {A = ℕ} 0 1 = cc in absurd (omega arith)
    go (Some C) e k = let z : ◌≡◌ {A = ℕ} 0 1 = cc in absurd (omega arith)
    go (Some F) e k = let z : ◌≡◌ {A = ℕ} 0 1 = cc in absurd (omega arith)
    go (Some A) e k = let z : ◌≡◌ {A = ℕ} 0 1 = cc in absurd (omega arith)
    go (Some H) e k = let z : ◌≡◌ {A = ℕ} 0 1 = cc in absurd (omega arith)
    go None e k = let z : ◌≡◌ {A = ℕ} 0 1 = cc in absurd (omega arith)

lines_read : (ls : List (List ℕ)) (t u : Table) (at : ℕ) (ms : List (List ℕ)) → LinesOf ls t → table_lines t at ms ≡ Ok u → LinesOf (ls ++ ms) u
lines_read ls t u at [] o h = subst (LinesOf (ls ++ [])) (same_ok _ _ h) (subst (λ (x : List (List ℕ)). LinesOf x t) (sym (append-nil ls)) o)
lines_read ls t u at (l ∷ ms) o h =
    let b = then_ok _ _ _ h in
    subst (λ (x : List (List ℕ)). LinesOf x u) (append_assoc ls (l ∷ []) ms) (lines_read (ls ++ l ∷ []) b.value u (at + 1) ms (line_read ls t b.value at l o b.first) b.second)

no_lines_yet : LinesOf [] no_rows
no_lines_yet = record { few_facts = omega arith; few_jobs = omega arith; facts_named = refl; jobs_named = refl; job_lines = []; all = refl; jobs = tt }

pub text_read : (s : List ℕ) (t : Table) → read_table s ≡ Ok t → TextOf s t
text_read s t h =
    let b = then_in_ok _ _ _ _ h in
    let w = looked_whole s b.first in
    record { short = w.short; lines = lines s; ended = sym w.lined; of = lines_read [] no_rows t 1 (lines s) no_lines_yet b.second }
