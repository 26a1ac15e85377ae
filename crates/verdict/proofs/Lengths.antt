-- How long a written slip is.
use Rattle.std.proofs.Common.{◌≡◌, ℕ, suc, ◌+◌, ◌*◌, ◌<◌, ◌≤◌, true, ◌&&◌, leb, List, [], ◌∷◌, ◌++◌, map, length, get_or, arith, length-append}
use Rattle.std.specs.List.{AllByRecursion}
use Rattle.std.proofs.lemmas.Bool.{and_parts, leb-true}
use Rattle.facts.specs.declared.mark.Mark.TheVariants.{Unnamed, Holds, Fails}
use Rattle.facts.specs.States.{State, nothing, overridden}
use Rattle.rules.specs.Written.{beside, one_job, steps, all_steps, written}
use Rattle.names.specs.Names.{letter, in_name, good_name, distinct_from}
use Rattle.text.specs.Lists.{each}
use Rattle.text.specs.Spelling.{join, closed}
use Rattle.names.specs.Spelling.{Literal, spell, Adds}
use Rattle.text.proofs.Lists.{each_at}
use Rattle.table.specs.Tables.{Table}
use Rattle.table.specs.Jobs.{job_at}
use Rattle.verdict.specs.Grammar.{bare, tagged, job_name}
use Rattle.verdict.specs.Slips.{literals_from, literals_text, state_text, tree_lines, slip_text}
use Rattle.verdict.specs.Statements.{ProperTable, StateOver, JobsOf}
use Rattle.verdict.proofs.Literals.{literals_added}
use Rattle.verdict.proofs.Writing.{good_job}
use Rattle.verdict.proofs.Overs.{over_effect, over_beside}

closed_append : (ls ms : List (List ℕ)) → length (closed (ls ++ ms)) ≡ length (closed ls) + length (closed ms)
closed_append [] ms = omega arith
closed_append (l ∷ ls) ms =
    let e = length-append l (10 ∷ closed (ls ++ ms)) in
    let f = length-append l (10 ∷ closed ls) in
    let g = closed_append ls ms in
    omega arith

closed_line : (l : List ℕ) (ls : List (List ℕ)) → length (closed (l ∷ ls)) ≡ length l + 1 + length (closed ls)
closed_line l ls = let e = length-append l (10 ∷ closed ls) in omega arith

literals_few : (i : ℕ) (s : State) → length (literals_from i s) ≤ length s
literals_few i [] = omega arith
literals_few i (Unnamed ∷ s) = let h = literals_few (i + 1) s in omega arith
literals_few i (Holds ∷ s) = let h = literals_few (i + 1) s in omega arith
literals_few i (Fails ∷ s) = let h = literals_few (i + 1) s in omega arith

name_short : (n : List ℕ) → good_name n ≡ true → length n ≤ 24
name_short n h =
    let a = and_parts (leb 1 (length n) && leb (length n) 24) (letter (get_or n 0 0) && each in_name n) h in
    leb-true (length n) 24 (and_parts (leb 1 (length n)) (leb (length n) 24) a.0).1

module _ (t : Table) (proper : ProperTable t) where
  fact_short : (i : ℕ) → i < length t.facts → length (get_or t.facts i []) ≤ 24
  fact_short i h = name_short (get_or t.facts i []) (each_at good_name t.facts [] (and_parts (each good_name t.facts) (distinct_from [] t.facts) proper.facts).0 i h)

  literals_short : (l : Literal) (ls : List Literal) (s r : State) → Adds (length t.facts) s (l ∷ ls) r → length (join 32 (map (spell t.facts) (l ∷ ls))) + 1 ≤ 26 * length (l ∷ ls)
  literals_short l [] s r a = let h = fact_short l.0 a.0 in omega arith
  literals_short l (m ∷ ls) s r a =
      let h = fact_short l.0 a.0 in
      let k = literals_short m ls _ r a.2 in
      let e = length-append (spell t.facts l) (32 ∷ join 32 (map (spell t.facts) (m ∷ ls))) in
      omega arith

  state_short : (s : State) → StateOver t s → length (state_text t.facts s) ≤ 6655
  state_short s o = go (literals_from 0 s) (literals_added t s o) (literals_few 0 s)
    where
      go : (ls : List Literal) → Adds (length t.facts) nothing ls s → length ls ≤ length s → length (literals_text t.facts ls) ≤ 6655
      go [] a h = omega arith
      go (l ∷ ls) a h = let k = literals_short l ls nothing s a in omega (arith, o.places)

  -- a line with a state, and the line of a job
  state_line : (b : ℕ) (s : State) (ls : List (List ℕ)) → StateOver t s → length (closed (tagged b (state_text t.facts s) ∷ ls)) ≤ 6658 + length (closed ls)
  state_line b s ls o =
      let h = state_short s o in
      let e = closed_line (tagged b (state_text t.facts s)) ls in
      omega arith

  job_short : (P : State) (k : ℕ) → StateOver t P → k < length t.jobs → length (closed (tree_lines t (one_job (job_at t) P k))) ≤ 6685
  job_short P k o h =
      let a = state_line 70 (beside P (job_at t k)) (tagged 65 (job_name t k) ∷ []) (over_beside t proper P k o h) in
      let e = closed_line (tagged 65 (job_name t k)) [] in
      let n = name_short (job_name t k) (good_job t proper k h) in
      omega arith

  steps_short : (P : State) (k : ℕ) (L : List ℕ) → StateOver t P → k < length t.jobs → AllByRecursion (λ m. m < length t.jobs) L → length (closed (tree_lines t (steps (job_at t) P k L))) ≤ 6685 + 6687 * length L
  steps_short P k [] o h known = let a = job_short P k o h in omega arith
  steps_short P k (m ∷ L) o h known =
      let a = job_short P k o h in
      let b = steps_short (overridden P (job_at t k).effect) m L (over_effect t proper P k o h) known.0 known.1 in
      let e = closed_line (bare 67) (tree_lines t (one_job (job_at t) P k) ++ tree_lines t (steps (job_at t) (overridden P (job_at t k).effect) m L)) in
      let f = closed_append (tree_lines t (one_job (job_at t) P k)) (tree_lines t (steps (job_at t) (overridden P (job_at t k).effect) m L)) in
      omega arith

  all_short : (P : State) (L : List ℕ) → StateOver t P → JobsOf t L → length (closed (tree_lines t (all_steps (job_at t) P L))) ≤ 427966
  all_short P [] o j = let a = state_line 70 P (bare 72 ∷ []) o in let e = closed_line (bare 72) [] in omega arith
  all_short P (k ∷ L) o j = let a = steps_short P k L o j.known.0 j.known.1 in let few : suc (length L) ≤ 64 = j.few in omega arith

  pub slip_short : (O G : State) (L : List ℕ) → StateOver t O → StateOver t G → JobsOf t L → length (slip_text t O G L) ≤ 454598
  slip_short O G L o g j =
      let x = all_steps (job_at t) O L in
      let a = all_short O L o j in
      let b = state_line 83 G (tree_lines t x) g in
      let c = state_line 87 O (tagged 83 (state_text t.facts G) ∷ tree_lines t x) o in
      let d = state_line 71 G (tree_lines t (written (job_at t) O G L)) g in
      let e = state_line 66 O (tagged 71 (state_text t.facts G) ∷ tree_lines t (written (job_at t) O G L)) o in
      omega arith
