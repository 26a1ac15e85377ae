-- The text of a table is read as that table.
use Rattle.std.proofs.Common.{◌≡◌, ℕ, suc, ◌+◌, ◌<◌, ◌≤◌, true, false, not, List, [], ◌∷◌, ◌++◌, map, length, get_or, is_some, Ok, sym, ap, ◌∙◌, subst, append_assoc, append-nil, arith}
use Rattle.std.specs.List.{AllByRecursion}
use Rattle.std.proofs.lemmas.Bool.{and_parts, lt-leb, not-true}
use Rattle.std.proofs.lemmas.List.{map_push, length_push}
use Rattle.text.specs.declared.fault.TextFault.TheVariants.{BadName}
use Rattle.text.specs.Chains.{then, then_in, unless}
use Rattle.text.specs.Lines.{lines, fields}
use Rattle.text.specs.Tags.{of_field}
use Rattle.text.specs.Lists.{each}
use Rattle.text.specs.Spelling.{closed}
use Rattle.text.proofs.Joins.{parts_join, lines_closed}
use Rattle.text.proofs.Endings.{line_byte, looked_closed}
use Rattle.names.specs.Names.{good_name, found_at, distinct_from, proper_names}
use Rattle.names.specs.Literals.{state_field}
use Rattle.names.proofs.Plain.{good_plain, tabless, lined, lined_append, all_free}
use Rattle.names.proofs.Writing.{field_spelt, field_plain}
use Rattle.table.specs.declared.fault.TableFault.TheVariants.{Text, NameUsed, TooManyLines}
use Rattle.table.specs.Rows.{Row, job_names}
use Rattle.table.specs.Tables.{Table, no_rows, place, new_name, job_states, by_tag, table_line, table_lines, read_table}
use Rattle.table.specs.Grammar.{fact_text, JobLine, JobLines, TextOf, ReadExactly}
use Rattle.table.proofs.Reading.{text_read}

name_written : (names : List (List ℕ)) (n : List ℕ) (line : ℕ) → good_name n ≡ true → is_some (found_at n names) ≡ false → new_name names n (place line 2) ≡ Ok n
name_written names n line g k =
    ap (λ x. then_in Text (unless (not x) (BadName (place line 2)) (λ _. Ok n)) (λ m. unless (is_some (found_at m names)) (NameUsed (place line 2)) (λ _. Ok m))) g
    ∙ ap (λ x. unless x (NameUsed (place line 2)) (λ _. Ok n)) k

-- one fact more
fact_written : (facts : List (List ℕ)) (n : List ℕ) (at : ℕ) → length facts < 256 → good_name n ≡ true → is_some (found_at n facts) ≡ false → table_line (record { facts = facts; jobs = [] }) at (fact_text n) ≡ Ok (record { facts = facts ++ n ∷ []; jobs = [] })
fact_written facts n at h g k =
    let t : Table = record { facts = facts; jobs = [] } in
    ap (λ fs. by_tag (of_field (get_or fs 0 [])) t at fs) (parts_join 9 (78 ∷ []) (n ∷ []) ((λ e. omega arith), tt) (tabless n (good_plain n g), tt))
    ∙ ap (λ x. unless x (TooManyLines at) (λ _. then (new_name facts n (place at 2)) (λ m. Ok (record { facts = facts ++ m ∷ []; jobs = [] })))) (lt-leb 256 (length facts) h)
    ∙ ap (λ r. then r (λ m. Ok (record { facts = facts ++ m ∷ []; jobs = [] }))) (name_written facts n at g k)

facts_written : (done ns rest : List (List ℕ)) (at : ℕ) → distinct_from done ns ≡ true → each good_name ns ≡ true → length done + length ns ≤ 256 → table_lines (record { facts = done; jobs = [] }) at (map fact_text ns ++ rest) ≡ table_lines (record { facts = done ++ ns; jobs = [] }) (at + length ns) rest
facts_written done [] rest at d g l = let z : at ≡ at + 0 = omega arith in λ i. table_lines (record { facts = sym (append-nil done) i; jobs = [] }) (z i) rest
facts_written done (n ∷ ns) rest at d g l =
    let p = and_parts (not (is_some (found_at n done))) (distinct_from (done ++ n ∷ []) ns) d in
    let q = and_parts (good_name n) (each good_name ns) g in
    let e = length_push done n in
    let z : at + 1 + length ns ≡ at + suc (length ns) = omega arith in
    ap (λ r. then r (λ u. table_lines u (at + 1) (map fact_text ns ++ rest))) (fact_written done n at (omega arith) q.0 (not-true (is_some (found_at n done)) p.0))
    ∙ facts_written (done ++ n ∷ []) ns rest (at + 1) p.1 q.1 (omega arith)
    ∙ (λ i. table_lines (record { facts = append_assoc done (n ∷ []) ns i; jobs = [] }) (z i) rest)

-- jobs over well formed, distinct names of at most 256 facts
module _ (facts : List (List ℕ)) (proper : proper_names facts ≡ true) (few : length facts ≤ 256) where
  row_fields : (l : List ℕ) (r : Row) (j : JobLine facts l r) → good_name r.name ≡ true → fields l ≡ (68 ∷ []) ∷ r.name ∷ j.needs ∷ j.sets ∷ []
  row_fields l r j g =
      ap fields j.line
      ∙ parts_join 9 (68 ∷ []) (r.name ∷ j.needs ∷ j.sets ∷ []) ((λ e. omega arith), tt)
      (tabless r.name (good_plain r.name g), (tabless j.needs (field_plain facts proper few (place 0 0) j.needs r.job.precondition j.precondition), (tabless j.sets (field_plain facts proper few (place 0 0) j.sets r.job.effect j.effect), tt)))

  states_written : (l : List ℕ) (r : Row) (j : JobLine facts l r) (at : ℕ) → job_states facts at ((68 ∷ []) ∷ r.name ∷ j.needs ∷ j.sets ∷ []) ≡ Ok r.job
  states_written l r j at =
      ap (λ x. then_in Text x (λ p. then_in Text (state_field facts (place at 4) j.sets) (λ e. Ok (record { precondition = p; effect = e })))) (field_spelt facts proper few (place at 3) j.needs r.job.precondition j.precondition)
      ∙ ap (λ x. then_in Text x (λ e. Ok (record { precondition = r.job.precondition; effect = e }))) (field_spelt facts proper few (place at 4) j.sets r.job.effect j.effect)

  job_written : (done : List Row) (l : List ℕ) (r : Row) (at : ℕ) → JobLine facts l r → length done < 128 → good_name r.name ≡ true → is_some (found_at r.name (job_names done)) ≡ false → table_line (record { facts = facts; jobs = done }) at l ≡ Ok (record { facts = facts; jobs = done ++ r ∷ [] })
  job_written done l r at j h g k =
      let t : Table = record { facts = facts; jobs = done } in
      let fs = (68 ∷ []) ∷ r.name ∷ j.needs ∷ j.sets ∷ [] in
      ap (λ fs. by_tag (of_field (get_or fs 0 [])) t at fs) (row_fields l r j g)
      ∙ ap (λ x. unless x (TooManyLines at) (λ _. then (new_name (job_names done) r.name (place at 2)) (λ n. then (job_states facts at fs) (λ w. Ok (record { facts = facts; jobs = done ++ (record { name = n; job = w }) ∷ [] }))))) (lt-leb 128 (length done) h)
      ∙ ap (λ x. then x (λ n. then (job_states facts at fs) (λ w. Ok (record { facts = facts; jobs = done ++ (record { name = n; job = w }) ∷ [] })))) (name_written (job_names done) r.name at g k)
      ∙ ap (λ x. then x (λ w. Ok (record { facts = facts; jobs = done ++ (record { name = r.name; job = w }) ∷ [] }))) (states_written l r j at)

  jobs_written : (done : List Row) (ls : List (List ℕ)) (rs : List Row) (at : ℕ) → JobLines facts ls rs → distinct_from (job_names done) (job_names rs) ≡ true → each good_name (job_names rs) ≡ true → length done + length rs ≤ 128 → table_lines (record { facts = facts; jobs = done }) at ls ≡ Ok (record { facts = facts; jobs = done ++ rs })
  jobs_written done [] [] at j d g l = λ i. Ok (record { facts = facts; jobs = sym (append-nil done) i })
  jobs_written done [] (r ∷ rs) at j d g l = absurd j
  jobs_written done (m ∷ ls) [] at j d g l = absurd j
  jobs_written done (m ∷ ls) (r ∷ rs) at j d g l =
      let p = and_parts (not (is_some (found_at r.name (job_names done)))) (distinct_from (job_names done ++ r.name ∷ []) (job_names rs)) d in
      let q = and_parts (good_name r.name) (each good_name (job_names rs)) g in
      let e = length_push done r in
      let seen : job_names (done ++ r ∷ []) ≡ job_names done ++ r.name ∷ [] = map_push (λ (x : Row). x.name) done r in
      ap (λ x. then x (λ u. table_lines u (at + 1) ls)) (job_written done m r at j.0 (omega arith) q.0 (not-true (is_some (found_at r.name (job_names done))) p.0))
      ∙ jobs_written (done ++ r ∷ []) ls rs (at + 1) j.1 (ap (λ x. distinct_from x (job_names rs)) seen ∙ p.1) q.1 (omega arith)
      ∙ (λ i. Ok (record { facts = facts; jobs = append_assoc done (r ∷ []) rs i }))

  -- their lines have bytes of lines only
  row_lined : (l : List ℕ) (r : Row) → JobLine facts l r → good_name r.name ≡ true → each line_byte l ≡ true
  row_lined l r j g =
      ap (each line_byte) j.line
      ∙ lined_append r.name (9 ∷ (j.needs ++ 9 ∷ j.sets)) (lined r.name (good_plain r.name g))
      (lined_append j.needs (9 ∷ j.sets) (lined j.needs (field_plain facts proper few (place 0 0) j.needs r.job.precondition j.precondition)) (lined j.sets (field_plain facts proper few (place 0 0) j.sets r.job.effect j.effect)))

  rows_lined : (ls : List (List ℕ)) (rs : List Row) → JobLines facts ls rs → each good_name (job_names rs) ≡ true → AllByRecursion (λ l. each line_byte l ≡ true) ls
  rows_lined [] [] j g = tt
  rows_lined [] (r ∷ rs) j g = absurd j
  rows_lined (l ∷ ls) [] j g = absurd j
  rows_lined (l ∷ ls) (r ∷ rs) j g =
      let q = and_parts (good_name r.name) (each good_name (job_names rs)) g in
      (row_lined l r j.0 q.0, rows_lined ls rs j.1 q.1)

facts_lined : (ns rest : List (List ℕ)) → each good_name ns ≡ true → AllByRecursion (λ l. each line_byte l ≡ true) rest → AllByRecursion (λ l. each line_byte l ≡ true) (map fact_text ns ++ rest)
facts_lined [] rest g h = h
facts_lined (n ∷ ns) rest g h =
    let q = and_parts (good_name n) (each good_name ns) g in
    (lined n (good_plain n q.0), facts_lined ns rest q.1 h)

text_written : (s : List ℕ) (t : Table) → TextOf s t → read_table s ≡ Ok t
text_written s t x =
    let o = x.of in
    let ls = map fact_text t.facts ++ o.job_lines in
    let f = and_parts (each good_name t.facts) (distinct_from [] t.facts) o.facts_named in
    let j = and_parts (each good_name (job_names t.jobs)) (distinct_from [] (job_names t.jobs)) o.jobs_named in
    let bytes = facts_lined t.facts o.job_lines f.0 (rows_lined t.facts o.facts_named o.few_facts o.job_lines t.jobs o.jobs j.0) in
    let is : s ≡ closed ls = x.ended ∙ ap closed o.all in
    ap read_table is
    ∙ ap (λ r. then_in Text r (λ _. table_lines no_rows 1 (lines (closed ls)))) (looked_closed ls (subst (λ (z : List ℕ). length z ≤ 1048576) is x.short) bytes)
    ∙ ap (table_lines no_rows 1) (lines_closed ls (all_free ls bytes))
    ∙ facts_written [] t.facts o.job_lines 1 f.1 f.0 (omega (arith, o.few_facts))
    ∙ jobs_written t.facts o.facts_named o.few_facts [] o.job_lines t.jobs (1 + length t.facts) o.jobs j.1 j.0 (omega (arith, o.few_jobs))

-- a table is read exactly when the text is one of that table
pub read_exactly : (s : List ℕ) → ReadExactly s (read_table s)
read_exactly s t = (text_read s t, text_written s t)
