-- One row more at the end of a table.
use Rattle.std.proofs.Common.{◌≡◌, ℕ, Bool, true, false, not, List, [], ◌∷◌, ◌++◌, is_some, sym, refl, ap, ◌∙◌, append_assoc, append-nil}
use Rattle.std.proofs.lemmas.List.{map_push}
use Rattle.std.proofs.lemmas.Bool.{and_parts, and_from, not_from_false}
use Rattle.facts.specs.Worlds.{job_within}
use Rattle.text.specs.Lists.{each}
use Rattle.names.specs.Names.{good_name, found_at, distinct_from, proper_names}
use Rattle.names.specs.Models.{spelling}
use Rattle.table.specs.declared.job_row.JobRow.{JobRow}
use Rattle.table.specs.Rows.{Row, rows_of, job_titles, job_names, proper_jobs}

each_push : {X : Type 0} (p : X → Bool) (xs : List X) (x : X) → each p xs ≡ true → p x ≡ true → each p (xs ++ x ∷ []) ≡ true
each_push p [] x h k = and_from (p x) true k refl
each_push p (y ∷ xs) x h k =
    let q = and_parts (p y) (each p xs) h in
    and_from (p y) (each p (xs ++ x ∷ [])) q.0 (each_push p xs x q.1 k)

distinct_push : (seen ns : List (List ℕ)) (n : List ℕ) → distinct_from seen ns ≡ true → is_some (found_at n (seen ++ ns)) ≡ false → distinct_from seen (ns ++ n ∷ []) ≡ true
distinct_push seen [] n h k = and_from (not (is_some (found_at n seen))) true (not_from_false (is_some (found_at n seen)) (ap (λ l. is_some (found_at n l)) (sym (append-nil seen)) ∙ k)) refl
distinct_push seen (m ∷ ns) n h k =
    let q = and_parts (not (is_some (found_at m seen))) (distinct_from (seen ++ m ∷ []) ns) h in
    and_from (not (is_some (found_at m seen))) (distinct_from (seen ++ m ∷ []) (ns ++ n ∷ [])) q.0 (distinct_push (seen ++ m ∷ []) ns n q.1 (ap (λ l. is_some (found_at n l)) (append_assoc seen (m ∷ []) ns) ∙ k))

pub proper_push : (ns : List (List ℕ)) (n : List ℕ) → proper_names ns ≡ true → good_name n ≡ true → is_some (found_at n ns) ≡ false → proper_names (ns ++ n ∷ []) ≡ true
proper_push ns n h g k =
    let q = and_parts (each good_name ns) (distinct_from [] ns) h in
    and_from (each good_name (ns ++ n ∷ [])) (distinct_from [] (ns ++ n ∷ [])) (each_push good_name ns n q.0 g) (distinct_push [] ns n q.1 k)

pub jobs_push : (n : ℕ) (rs : List Row) (r : Row) → proper_jobs n rs ≡ true → good_name r.name ≡ true → is_some (found_at r.name (job_names rs)) ≡ false → job_within n r.job ≡ true → proper_jobs n (rs ++ r ∷ []) ≡ true
jobs_push n rs r h g k w =
    let q = and_parts (proper_names (job_names rs)) (each (λ (x : Row). job_within n x.job) rs) h in
    and_from (proper_names (job_names (rs ++ r ∷ []))) (each (λ (x : Row). job_within n x.job) (rs ++ r ∷ []))
    (ap proper_names (map_push (λ (x : Row). x.name) rs r) ∙ proper_push (job_names rs) r.name q.0 g k)
    (each_push (λ (x : Row). job_within n x.job) rs r q.1 w)

pub names_same : (rs : List JobRow) → job_titles rs ≡ job_names (rows_of rs)
names_same [] = refl
names_same (r ∷ rs) = ap (λ l. spelling r.name ∷ l) (names_same rs)
