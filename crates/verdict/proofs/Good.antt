-- A list has an accepted slip exactly if it is good.
use Rattle.std.proofs.Common.{◌≡◌, ℕ, ◌<◌, true, List, length, Ok, refl, arith}
use Rattle.std.specs.List.{AllByRecursion}
use Rattle.std.proofs.ByRecursion.{All-append}
use Rattle.facts.specs.States.{State, within}
use Rattle.rules.specs.Rules.{Tree, Derives}
use Rattle.rules.specs.Rules.Derives.{by_H, by_A, by_C, by_W, by_S, by_F}
use Rattle.rules.specs.Written.{written}
use Rattle.rules.proofs.Soundness.{sound}
use Rattle.rules.proofs.Completeness.{complete, shallow}
use Rattle.names.specs.Spelling.{Denotes}
use Rattle.names.proofs.Inside.{within_field}
use Rattle.names.proofs.Writing.{field_spelt}
use Rattle.table.specs.Tables.{Table, place}
use Rattle.table.specs.Jobs.{job_at}
use Rattle.verdict.specs.Verdicts.{plan_from, judge}
use Rattle.verdict.specs.Grammar.{SpeltLines}
use Rattle.verdict.specs.Slips.{state_text, tree_lines, slip_text}
use Rattle.verdict.specs.Statements.{ProperTable, GoodJobs, AcceptsGood, WritesAccepted, PlanFacts}
use Rattle.verdict.proofs.Literals.{state_spelt}
use Rattle.verdict.proofs.Overs.{list_fits, written_spelt}
use Rattle.verdict.proofs.Lengths.{slip_short}
use Rattle.verdict.proofs.Writing.{slip_written}
use Rattle.verdict.proofs.Accepting.{slip_read}

denotes_within : (t : Table) (proper : ProperTable t) (f : List ℕ) (P : State) → Denotes t.facts f P → within (length t.facts) P ≡ true
denotes_within t proper f P d = within_field t.facts (place 0 0) f P (field_spelt t.facts proper.facts proper.few (place 0 0) f P d)

module _ (t : Table) (proper : ProperTable t) where
  -- what is accepted is good
  pub accepted_good : (s : List ℕ) (O G : State) (L : List ℕ) → judge t s ≡ Ok (plan_from t O G L) → GoodJobs t O G L
  accepted_good s O G L h = let x = slip_read t proper s O G L h in sound (job_at t) (length t.facts) x.tree O G L x.few x.derives

  pub writes_accepted : WritesAccepted t
  writes_accepted O G L o g j good =
      let short = slip_short t proper O G L o g j in
      let depth = shallow (job_at t) O G L j.few in (
        slip_written t proper (slip_text t O G L) O G L (record {
          short = omega arith;
          first = state_text t.facts O;
          second = state_text t.facts G;
          tree = written (job_at t) O G L;
          rest = tree_lines t (written (job_at t) O G L);
          lines = refl;
          opening = state_spelt t O o;
          goal = state_spelt t G g;
          spelt = written_spelt t proper O G L o g j;
          shallow = omega arith;
          few = j.few;
          derives = complete (job_at t) (length t.facts) O G L (list_fits t proper O G L o g j) good;
        }),
        short,
      )

  pub accepts_good : AcceptsGood t
  accepts_good O G L o g j = (λ h. accepted_good h.0 O G L h.1, λ good. (slip_text t O G L, (writes_accepted O G L o g j good).0))

  -- and its states and jobs are of the table
  known : {x : Tree} {O E : State} {L : List ℕ} → Derives (job_at t) x O E L → (ls : List (List ℕ)) → SpeltLines t x ls → AllByRecursion (λ k. k < length t.jobs) L
  known by_H ls s = tt
  known (by_A k) ls s = (s.0, tt)
  known (by_C {L₁ = L} {L₂ = M} d e c) ls s = All-append (λ k. k < length t.jobs) L M (known d s.left s.first) (known e s.right s.second)
  known (by_W P d c) ls s = known d s.rest s.premise
  known (by_S Q d c) ls s = known d s.rest s.premise
  known (by_F R d a b u) ls s = known d s.rest s.premise

  pub accepted_facts : (s : List ℕ) (O G : State) (L : List ℕ) → judge t s ≡ Ok (plan_from t O G L) → PlanFacts t O G L
  accepted_facts s O G L h =
      let x = slip_read t proper s O G L h in
      record {
        good = accepted_good s O G L h;
        opening = denotes_within t proper x.first O x.opening;
        goal = denotes_within t proper x.second G x.goal;
        jobs = record { few = x.few; known = known x.derives x.rest x.spelt };
      }
