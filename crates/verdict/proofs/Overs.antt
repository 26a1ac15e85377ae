-- States over a table's facts, and trees made of them.
use Rattle.std.proofs.Common.{◌≡◌, ℕ, ◌<◌, true, List, [], ◌∷◌, map, length, get_or, sym, refl, ap, ◌∙◌, ⊎_elim, arith}
use Rattle.std.specs.List.{AllByRecursion}
use Rattle.std.proofs.lemmas.Bool.{and_parts, and_from}
use Rattle.facts.specs.declared.mark.Mark.{Mark}
use Rattle.facts.specs.States.{State, mark, named, within, less_one, overridden, without}
use Rattle.facts.specs.Worlds.{job_within}
use Rattle.facts.proofs.Marks.{mark_less, mark_over}
use Rattle.facts.proofs.Scans.{length_blend}
use Rattle.facts.proofs.Tests.{within_decides}
use Rattle.lists.specs.Lists.{jobs_within, fits}
use Rattle.lists.proofs.Places.{parts_fit}
use Rattle.rules.specs.Rules.{Tree}
use Rattle.rules.specs.Rules.Tree.{H, A, S}
use Rattle.rules.specs.Written.{beside, one_job, steps, all_steps, written}
use Rattle.rules.proofs.Marks.{over_named}
use Rattle.text.specs.Lists.{each}
use Rattle.names.specs.Names.{proper_names}
use Rattle.text.proofs.Lists.{each_at}
use Rattle.table.specs.Rows.{Row, job_names}
use Rattle.table.specs.Tables.{Table}
use Rattle.table.specs.Jobs.{no_row, job_at}
use Rattle.verdict.specs.Grammar.{tagged, Stated, SpeltLines}
use Rattle.verdict.specs.Slips.{state_text, tree_lines}
use Rattle.verdict.specs.Statements.{FullRow, ProperTable, StateOver, JobsOf}
use Rattle.verdict.proofs.Places.{over_places, full_at}
use Rattle.verdict.proofs.Literals.{state_spelt}

less_named : (p q : Mark) → named (less_one p q) ≡ true → named p ≡ true
less_named p q h = grind arith

over_without : (t : Table) (P Q : State) → StateOver t P → length Q ≡ 256 → StateOver t (without P Q)
over_without t P Q p q = record { places = length_blend less_one P Q (p.places ∙ sym q) ∙ p.places; within = λ i h. p.within i (less_named (mark P i) (mark Q i) (sym (ap named (mark_less P Q i)) ∙ h)) }

over_over : (t : Table) (P E : State) → StateOver t P → StateOver t E → StateOver t (overridden P E)
over_over t P E p e = record { places = over_places P E p.places e.places; within = λ i h. ⊎_elim (e.within i) (p.within i) (over_named (mark P i) (mark E i) (sym (ap named (mark_over P E i)) ∙ h)) }

module _ (t : Table) (proper : ProperTable t) where
  row : (k : ℕ) → FullRow (get_or t.jobs k no_row)
  row k = full_at t.jobs k proper.places

  pub job_inside : (k : ℕ) → k < length t.jobs → job_within (length t.facts) (job_at t k) ≡ true
  job_inside k h = each_at (λ (r : Row). job_within (length t.facts) r.job) t.jobs no_row (and_parts (proper_names (job_names t.jobs)) (each (λ (r : Row). job_within (length t.facts) r.job) t.jobs) proper.jobs).1 k h

  effect_over : (k : ℕ) → k < length t.jobs → StateOver t (job_at t k).effect
  effect_over k h = record { places = (row k).effect; within = (within_decides (length t.facts) (job_at t k).effect).0 (and_parts (within (length t.facts) (job_at t k).precondition) (within (length t.facts) (job_at t k).effect) (job_inside k h)).1 }

  pub over_effect : (P : State) (k : ℕ) → StateOver t P → k < length t.jobs → StateOver t (overridden P (job_at t k).effect)
  over_effect P k o h = over_over t P (job_at t k).effect o (effect_over k h)

  pub over_beside : (P : State) (k : ℕ) → StateOver t P → k < length t.jobs → StateOver t (beside P (job_at t k))
  over_beside P k o h = over_without t (without P (job_at t k).precondition) (job_at t k).effect (over_without t P (job_at t k).precondition o (row k).precondition) (row k).effect

  -- the jobs of a list name only facts of the table
  all_inside : (L : List ℕ) → AllByRecursion (λ k. k < length t.jobs) L → jobs_within (length t.facts) (map (job_at t) L) ≡ true
  all_inside [] a = refl
  all_inside (k ∷ L) a = and_from (job_within (length t.facts) (job_at t k)) (jobs_within (length t.facts) (map (job_at t) L)) (job_inside k a.0) (all_inside L a.1)

  pub list_fits : (O G : State) (L : List ℕ) → StateOver t O → StateOver t G → JobsOf t L → fits (length t.facts) O G (map (job_at t) L) ≡ true
  list_fits O G L o g j = parts_fit (length t.facts) O G (map (job_at t) L) (record { opening = (within_decides (length t.facts) O).1 o.within; goal = (within_decides (length t.facts) G).1 g.within; jobs = all_inside L j.known })

  -- the lines of the written derivation spell it
  stated : (b : ℕ) (P : State) (x : Tree) → StateOver t P → SpeltLines t x (tree_lines t x) → Stated t b P (SpeltLines t x) (tagged b (state_text t.facts P) ∷ tree_lines t x)
  stated b P x o s = record { field = state_text t.facts P; rest = tree_lines t x; lines = refl; state = state_spelt t P o; premise = s }

  job_spelt : (P : State) (k : ℕ) → StateOver t P → k < length t.jobs → SpeltLines t (one_job (job_at t) P k) (tree_lines t (one_job (job_at t) P k))
  job_spelt P k o h = stated 70 (beside P (job_at t k)) (A k) (over_beside P k o h) (h, refl)

  steps_spelt : (P : State) (k : ℕ) (L : List ℕ) → StateOver t P → k < length t.jobs → AllByRecursion (λ m. m < length t.jobs) L → SpeltLines t (steps (job_at t) P k L) (tree_lines t (steps (job_at t) P k L))
  steps_spelt P k [] o h a = job_spelt P k o h
  steps_spelt P k (m ∷ L) o h a = record { left = tree_lines t (one_job (job_at t) P k); right = tree_lines t (steps (job_at t) (overridden P (job_at t k).effect) m L); lines = refl; first = job_spelt P k o h; second = steps_spelt (overridden P (job_at t k).effect) m L (over_effect P k o h) a.0 a.1 }

  all_spelt : (P : State) (L : List ℕ) → StateOver t P → JobsOf t L → SpeltLines t (all_steps (job_at t) P L) (tree_lines t (all_steps (job_at t) P L))
  all_spelt P [] o j = stated 70 P H o refl
  all_spelt P (k ∷ L) o j = steps_spelt P k L o j.known.0 j.known.1

  pub written_spelt : (O G : State) (L : List ℕ) → StateOver t O → StateOver t G → JobsOf t L → SpeltLines t (written (job_at t) O G L) (tree_lines t (written (job_at t) O G L))
  written_spelt O G L o g j = stated 87 O (S G (all_steps (job_at t) O L)) o (stated 83 G (all_steps (job_at t) O L) g (all_spelt O L o j))
