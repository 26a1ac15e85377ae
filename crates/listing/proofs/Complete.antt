-- The text of a list is read as that list.
use Rattle.std.proofs.Common.{◌≡◌, ℕ, ◌+◌, ◌<◌, ◌≤◌, true, not, eqb, leb, List, [], ◌∷◌, ◌++◌, length, get_or, Ok, Result, sym, refl, ap, ◌∙◌, subst, append_assoc, append-nil, arith}
use Rattle.std.proofs.lemmas.Bool.{lt-leb}
use Rattle.std.proofs.lemmas.List.{length_push}
use Rattle.std.specs.List.{AllByRecursion}
use Rattle.facts.specs.States.{State}
use Rattle.text.specs.Chains.{then, then_in, unless}
use Rattle.text.specs.Lines.{lines, fields}
use Rattle.text.specs.Tags.{of_field}
use Rattle.text.specs.Lists.{each}
use Rattle.text.specs.Spelling.{closed}
use Rattle.text.proofs.Joins.{lines_closed}
use Rattle.text.proofs.Endings.{line_byte, looked_closed}
use Rattle.names.specs.Literals.{state_field}
use Rattle.names.specs.Spelling.{Denotes}
use Rattle.names.proofs.Plain.{plain_byte, good_plain, all_free}
use Rattle.table.specs.Tables.{Table, place}
use Rattle.table.specs.Jobs.{job_number}
use Rattle.verdict.specs.Verdicts.{Plan, plan_from}
use Rattle.verdict.specs.Grammar.{bare, tagged, job_name}
use Rattle.verdict.specs.Statements.{ProperTable}
use Rattle.verdict.proofs.Writing.{tagged_fields, number_found, good_job, spelt, plain, tagged_lined}
use Rattle.listing.specs.declared.fault.ListingFault.{ListingFault}
use Rattle.listing.specs.declared.fault.ListingFault.TheVariants.{Text, WrongFields, OutOfOrder, TooManyJobs}
use Rattle.listing.specs.declared.part.Part.{Part}
use Rattle.listing.specs.declared.part.Part.TheVariants.{Opening, Goal, Job}
use Rattle.listing.specs.Listings.{part_of, same_part, part_line, next_state, job_line, job_lines, list_lines, read_listing}
use Rattle.listing.specs.Grammar.{job_texts, ListOf, ListsExactly}
use Rattle.listing.proofs.Steps.{first, second}
use Rattle.listing.proofs.Sound.{part_letter, list_is_read}

no_tab : (w : Part) → part_letter w ≡ 9 → ⊥
no_tab Opening z = omega arith
no_tab Goal z = omega arith
no_tab Job z = omega arith

part_fields : (w : Part) (f : List ℕ) → each plain_byte f ≡ true → fields (tagged (part_letter w) f) ≡ bare (part_letter w) ∷ f ∷ []
part_fields w f p = tagged_fields (part_letter w) f (no_tab w) p

part_spelt : (w : Part) (at : ℕ) (f : List ℕ) → each plain_byte f ≡ true → part_line w at (tagged (part_letter w) f) ≡ Ok (tt {0})
part_spelt w at f p = ap (λ fs. then (part_of (of_field (get_or fs 0 [])) at) (λ q. unless (not (same_part q w)) (OutOfOrder at) (λ _. unless (not (eqb (length fs) 2)) (WrongFields at) (λ _. Ok (tt {0}))))) (part_fields w f p) ∙ go w
  where
    go : (v : Part) → then (part_of (of_field (bare (part_letter v))) at) (λ q. unless (not (same_part q v)) (OutOfOrder at) (λ _. unless (not (eqb (length (bare (part_letter v) ∷ f ∷ [])) 2)) (WrongFields at) (λ _. Ok (tt {0})))) ≡ Ok (tt {0})
    go Opening = refl
    go Goal = refl
    go Job = refl

module _ (t : Table) (proper : ProperTable t) where
  state_spelt : (w : Part) (at : ℕ) (f : List ℕ) (P : State) → Denotes t.facts f P → (ls : List (List ℕ)) (k : State → List (List ℕ) → Result Plan ListingFault) → next_state t w at (tagged (part_letter w) f ∷ ls) k ≡ k P ls
  state_spelt w at f P d ls k =
      let l = tagged (part_letter w) f in
      let p = plain t proper f P d in
      ap (λ o. then (then o (λ _. then_in Text (state_field t.facts (place at 2) (get_or (fields l) 1 [])) (λ s. Ok s))) (λ s. k s ls)) (part_spelt w at f p)
      ∙ ap (λ fs. then (then_in Text (state_field t.facts (place at 2) (get_or fs 1 [])) (λ s. Ok s)) (λ s. k s ls)) (part_fields w f p)
      ∙ ap (λ o. then (then_in Text o (λ s. Ok s)) (λ s. k s ls)) (spelt t proper (place at 2) f P d)

  job_spelt : (ks : List ℕ) (at k : ℕ) → k < length t.jobs → length ks < 64 → job_line t ks at (tagged 69 (job_name t k)) ≡ Ok (ks ++ k ∷ [])
  job_spelt ks at k h room =
      let f = job_name t k in
      let l = tagged 69 f in
      let p = good_plain f (good_job t proper k h) in
      ap (λ o. then o (λ _. unless (leb 64 (length ks)) (TooManyJobs at) (λ _. then_in Text (job_number t (get_or (fields l) 1 []) (place at 2)) (λ i. Ok (ks ++ i ∷ []))))) (part_spelt Job at f p)
      ∙ ap (λ v. unless v (TooManyJobs at) (λ _. then_in Text (job_number t (get_or (fields l) 1 []) (place at 2)) (λ i. Ok (ks ++ i ∷ [])))) (lt-leb 64 (length ks) room)
      ∙ ap (λ fs. then_in Text (job_number t (get_or fs 1 []) (place at 2)) (λ i. Ok (ks ++ i ∷ []))) (part_fields Job f p)
      ∙ ap (λ o. then_in Text o (λ i. Ok (ks ++ i ∷ []))) (number_found t proper k (place at 2) h)

  jobs_spelt : (L ks : List ℕ) (at : ℕ) → AllByRecursion (λ k. k < length t.jobs) L → length ks + length L ≤ 64 → job_lines t ks at (job_texts t L) ≡ Ok (ks ++ L)
  jobs_spelt [] ks at a few = ap Ok (sym (append-nil ks))
  jobs_spelt (k ∷ L) ks at a few =
      ap (λ o. then o (λ js. job_lines t js (at + 1) (job_texts t L))) (job_spelt ks at k a.0 (omega arith))
      ∙ jobs_spelt L (ks ++ k ∷ []) (at + 1) a.1 (omega (arith, length_push ks k))
      ∙ ap Ok (append_assoc ks (k ∷ []) L)

  jobs_lined : (L : List ℕ) → AllByRecursion (λ k. k < length t.jobs) L → AllByRecursion (λ l. each line_byte l ≡ true) (job_texts t L)
  jobs_lined [] a = tt
  jobs_lined (k ∷ L) a = (tagged_lined t proper 69 (job_name t k) refl (good_plain (job_name t k) (good_job t proper k a.0)), jobs_lined L a.1)

  pub list_written : (s : List ℕ) (O G : State) (L : List ℕ) → ListOf t s O G L → read_listing t s ≡ Ok (plan_from t O G L)
  list_written s O G L x =
      let ms = job_texts t L in
      let ls = tagged 66 x.first ∷ tagged 71 x.second ∷ ms in
      let bytes : AllByRecursion (λ l. each line_byte l ≡ true) ls = (tagged_lined t proper 66 x.first refl (plain t proper x.first O x.opening), (tagged_lined t proper 71 x.second refl (plain t proper x.second G x.goal), jobs_lined L x.jobs.known)) in
      ap (read_listing t) x.lines
      ∙ ap (λ o. then_in Text o (λ _. list_lines t (lines (closed ls)))) (looked_closed ls (subst (λ (z : List ℕ). length z ≤ 1048576) x.lines x.short) bytes)
      ∙ ap (list_lines t) (lines_closed ls (all_free ls bytes))
      ∙ state_spelt Opening 1 x.first O x.opening (tagged 71 x.second ∷ ms) (first t)
      ∙ state_spelt Goal 2 x.second G x.goal ms (second t O)
      ∙ ap (λ o. then o (λ ks. Ok (plan_from t O G ks))) (jobs_spelt L [] 3 x.jobs.known (omega (arith, x.jobs.few)))

  pub lists_exactly : (s : List ℕ) → ListsExactly t s (read_listing t s)
  lists_exactly s O G L = (list_is_read t s O G L, list_written s O G L)
