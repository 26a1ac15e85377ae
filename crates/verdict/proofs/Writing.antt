-- What is spelt as a slip, and derives, is accepted.
use Rattle.std.proofs.Common.{◌≡◌, ℕ, zero, suc, ◌+◌, ◌<◌, ◌≤◌, Bool, true, not, ◌&&◌, ◌||◌, List, [], ◌∷◌, ◌++◌, length, get_or, Some, Ok, Result, sym, refl, ap, ◌∙◌, subst, append_assoc, append-nil, arith, length-append}
use Rattle.std.proofs.lemmas.List.{length-map}
use Rattle.std.specs.List.{AllByRecursion}
use Rattle.std.proofs.ByRecursion.{All-append}
use Rattle.std.proofs.lemmas.Bool.{and_parts, lt-leb}
use Rattle.facts.specs.States.{State, mark, nothing, overridden, covers, same, apart}
use Rattle.facts.specs.Worlds.{job_within}
use Rattle.facts.proofs.Marks.{mark_nothing, unnamed_not}
use Rattle.facts.proofs.Tests.{covers_decides, apart_decides, same_decides}
use Rattle.rules.specs.Rules.{Tree, depth, Derives, Untouched}
use Rattle.rules.specs.Rules.Tree.{H, A, C, W, S, F}
use Rattle.rules.specs.Rules.Derives.{by_H, by_A, by_C, by_W, by_S, by_F}
use Rattle.rules.proofs.Frames.{both_bar, append_untouched}
use Rattle.text.specs.declared.fault.Place.{Place}
use Rattle.text.specs.declared.fault.TextFault.TheVariants.{BadName, UnknownName}
use Rattle.text.specs.Chains.{then, then_in, unless, or_else}
use Rattle.text.specs.Lines.{fields}
use Rattle.text.specs.Tags.{of_field}
use Rattle.text.specs.Lists.{each}
use Rattle.names.specs.Names.{good_name, found_at, distinct_from, proper_names}
use Rattle.names.specs.Literals.{state_field}
use Rattle.text.specs.Spelling.{closed}
use Rattle.names.specs.Spelling.{Denotes}
use Rattle.text.proofs.Joins.{parts_join, lines_closed}
use Rattle.names.proofs.Plain.{plain_byte, good_plain, tabless, lined, all_free}
use Rattle.text.proofs.Lists.{each_at}
use Rattle.names.proofs.Writing.{found_self, field_spelt, field_plain}
use Rattle.text.proofs.Endings.{line_byte, looked_closed}
use Rattle.table.specs.Rows.{Row, job_names}
use Rattle.table.specs.Tables.{Table, place}
use Rattle.table.specs.Jobs.{job_number, job_at}
use Rattle.verdict.specs.declared.fault.SlipFault.{SlipFault}
use Rattle.verdict.specs.declared.fault.SlipFault.TheVariants.{Text, WeakenUncovered, ComposeUncovered, ShrinkUncovered, EffectBarred, FrameNamed, TooManyJobs, OpeningDiffers, EndDiffers}
use Rattle.verdict.specs.declared.rule.Rule as rules
use Rattle.verdict.specs.declared.rule.Rule.TheVariants.{Halt, Apply, Compose, Weaken, Shrink, Frame}
use Rattle.verdict.specs.declared.rule.Header as headers
use Rattle.verdict.specs.declared.rule.Header.TheVariants.{Opening, Goal}
use Rattle.verdict.specs.Lines.{header_tag, rule_tag}
use Rattle.verdict.specs.Verdicts.{Ends, Cursor, Read, plan_from, past, with_number, applied, then_read, weaken, shrink, frame, by_rule, rule_line, derivation, header_line, header, conclude, start, judge_lines, judge}
use Rattle.verdict.specs.Grammar.{bare, tagged, job_name, SpeltLines, SlipOf}
use Rattle.verdict.specs.Statements.{ProperTable}
use Rattle.verdict.proofs.Letters.{header_letter}

deep : (x : Tree) → 0 < depth x
deep H = omega arith
deep (A k) = omega arith
deep (C x y) = omega arith
deep (W P x) = omega arith
deep (S Q x) = omega arith
deep (F R x) = omega arith

-- where the reader stands behind the lines ls with the jobs L
abbrev behind : Cursor → List (List ℕ) → List (List ℕ) → List ℕ → Cursor
behind c ls more L = record { line = c.line + length ls; rest = more; jobs = c.jobs ++ L }

abbrev ends : State → State → Ends
ends O E = record { opening = O; end = E }

pub tagged_fields : (b : ℕ) (f : List ℕ) → (b ≡ 9 → ⊥) → each plain_byte f ≡ true → fields (tagged b f) ≡ bare b ∷ f ∷ []
tagged_fields b f n p = parts_join 9 (bare b) (f ∷ []) (n, tt) (tabless f p, tt)

-- a test that comes out well
passes : {X : Type 0} (b : Bool) (e : SlipFault) (x : Result X SlipFault) → b ≡ true → unless (not b) e (λ _. x) ≡ x
passes b e x h = ap (λ v. unless (not v) e (λ _. x)) h

module _ (t : Table) (proper : ProperTable t) where
  good_names : proper_names (job_names t.jobs) ≡ true
  good_names = (and_parts (proper_names (job_names t.jobs)) (each (λ (r : Row). job_within (length t.facts) r.job) t.jobs) proper.jobs).0

  named : (k : ℕ) → k < length t.jobs → k < length (job_names t.jobs)
  named k h = omega (arith, length-map t.jobs (λ (r : Row). r.name))

  pub good_job : (k : ℕ) → k < length t.jobs → good_name (job_name t k) ≡ true
  good_job k h = each_at good_name (job_names t.jobs) [] (and_parts (each good_name (job_names t.jobs)) (distinct_from [] (job_names t.jobs)) good_names).0 k (named k h)

  pub number_found : (k : ℕ) (at : Place) → k < length t.jobs → job_number t (job_name t k) at ≡ Ok k
  number_found k at h =
      let z : 0 + k ≡ k = omega arith in
      ap (λ v. then (unless (not v) (BadName at) (λ _. Ok (job_name t k))) (λ n. or_else (found_at n (job_names t.jobs)) (UnknownName at) (λ i. Ok i))) (good_job k h)
      ∙ ap (λ o. or_else o (UnknownName at) (λ i. Ok i)) (found_self [] (job_names t.jobs) (and_parts (each good_name (job_names t.jobs)) (distinct_from [] (job_names t.jobs)) good_names).1 0 k (named k h) ∙ ap Some z)

  pub spelt : (at : Place) (f : List ℕ) (P : State) → Denotes t.facts f P → state_field t.facts at f ≡ Ok P
  spelt at f P d = field_spelt t.facts proper.facts proper.few at f P d

  pub plain : (f : List ℕ) (P : State) → Denotes t.facts f P → each plain_byte f ≡ true
  plain f P d = field_plain t.facts proper.facts proper.few (place 0 0) f P d

  -- one rule line
  at_line : (left : ℕ) (bar : State) (c : Cursor) (l : List ℕ) (ls fs : List (List ℕ)) (r : rules.Rule) → c.rest ≡ l ∷ ls → fields l ≡ fs → rule_tag (of_field (get_or fs 0 [])) (length fs) c.line ≡ Ok r → derivation t (suc left) bar c ≡ by_rule t r (derivation t left) bar c.line fs (past c ls)
  at_line left bar c l ls fs r e f g =
      ap (λ x. rule_line x c (λ q gs d. by_rule t q (derivation t left) bar c.line gs d)) e
      ∙ ap (λ gs. then (rule_tag (of_field (get_or gs 0 [])) (length gs) c.line) (λ q. by_rule t q (derivation t left) bar c.line gs (past c ls))) f
      ∙ ap (λ o. then o (λ q. by_rule t q (derivation t left) bar c.line fs (past c ls))) g

  -- the same state of a reader, counted in two ways
  stands : (a : Ends) (m n : ℕ) (rest : List (List ℕ)) (J K : List ℕ) → m ≡ n → J ≡ K → ◌≡◌ {A = Read Ends} (Ok (a, record { line = m; rest = rest; jobs = J })) (Ok (a, record { line = n; rest = rest; jobs = K }))
  stands a m n rest J K p q = λ i. Ok (a, record { line = p i; rest = rest; jobs = q i })

  one_line : (n : ℕ) (l : List ℕ) (ls : List (List ℕ)) → ls ≡ l ∷ [] → n + 1 ≡ n + length ls
  one_line n l ls e = let k : length ls ≡ 1 = ap (λ (x : List (List ℕ)). length x) e in omega arith

  more_lines : (n : ℕ) (l : List ℕ) (ms ls : List (List ℕ)) → ls ≡ l ∷ ms → n + 1 + length ms ≡ n + length ls
  more_lines n l ms ls e = let k : length ls ≡ suc (length ms) = ap (λ (x : List (List ℕ)). length x) e in omega arith

  derived : (left : ℕ) {x : Tree} {O E : State} {L : List ℕ} → Derives (job_at t) x O E L → (ls more : List (List ℕ)) → SpeltLines t x ls → depth x ≤ left → (bar : State) → Untouched (job_at t) bar L → (c : Cursor) → c.rest ≡ ls ++ more → length c.jobs + length L ≤ 64 → derivation t left bar c ≡ Ok (ends O E, behind c ls more L)
  derived zero {x = x} d ls more s h bar u c e n = absurd (omega (arith, deep x))
  derived (suc left) by_H ls more s h bar u c e n =
      at_line left bar c (bare 72) more (bare 72 ∷ []) Halt (e ∙ ap (λ x. x ++ more) s) refl refl
      ∙ stands (ends nothing nothing) (c.line + 1) (c.line + length ls) more c.jobs (c.jobs ++ []) (one_line c.line (bare 72) ls s) (sym (append-nil c.jobs))
  derived (suc left) (by_A k) ls more s h bar u c e n =
      let name = job_name t k in
      let j = job_at t k in
      at_line left bar c (tagged 65 name) more (bare 65 ∷ name ∷ []) Apply (e ∙ ap (λ x. x ++ more) s.1) (tagged_fields 65 name (λ z. omega arith) (good_plain name (good_job k s.0))) refl
      ∙ ap (λ v. unless v (TooManyJobs c.line) (λ _. then_in Text (job_number t name (place c.line 2)) (λ i. unless (not (apart bar (job_at t i).effect)) (EffectBarred c.line) (λ _. Ok (applied (job_at t i), with_number (past c more) i))))) (lt-leb 64 (length c.jobs) (omega arith))
      ∙ ap (λ o. then_in Text o (λ i. unless (not (apart bar (job_at t i).effect)) (EffectBarred c.line) (λ _. Ok (applied (job_at t i), with_number (past c more) i)))) (number_found k (place c.line 2) s.0)
      ∙ passes (apart bar j.effect) (EffectBarred c.line) (Ok (applied j, with_number (past c more) k)) ((apart_decides bar j.effect).1 u.0)
      ∙ stands (applied j) (c.line + 1) (c.line + length ls) more (c.jobs ++ k ∷ []) (c.jobs ++ k ∷ []) (one_line c.line (tagged 65 name) ls s.1) refl
  derived (suc left) (by_C {O₁ = O} {E₁ = E} {O₂ = P} {E₂ = Q} {L₁ = L} {L₂ = M} x y covered) ls more s h bar u c e n =
      let v = append_untouched (job_at t) bar L M u in
      let lens : length (L ++ M) ≡ length L + length M = length-append L M in
      let lens2 : length (c.jobs ++ L) ≡ length c.jobs + length L = length-append c.jobs L in
      let mid = (s.left ++ s.right) ++ more in
      let c1 = behind (past c mid) s.left (s.right ++ more) L in
      let one = derived left x s.left (s.right ++ more) s.first (omega arith) bar v.0 (past c mid) (append_assoc s.left s.right more) (omega arith) in
      let two = derived left y s.right more s.second (omega arith) bar v.1 c1 refl (omega arith) in
      let lens3 : length ls ≡ suc (length (s.left ++ s.right)) = ap (λ (z : List (List ℕ)). length z) s.lines in
      let lens4 : length (s.left ++ s.right) ≡ length s.left + length s.right = length-append s.left s.right in
      at_line left bar c (bare 67) mid (bare 67 ∷ []) Compose (e ∙ ap (λ z. z ++ more) s.lines) refl refl
      ∙ ap (λ o. then_read {X = Ends × Ends} (then_read o (λ a d. then_read (derivation t left bar d) (λ b f. Ok ((a, b), f)))) (λ p d. unless (not (covers p.0.end p.1.opening)) (ComposeUncovered c.line) (λ _. Ok (ends p.0.opening p.1.end, d)))) one
      ∙ ap (λ o. then_read {X = Ends × Ends} (then_read o (λ b f. Ok ((ends O E, b), f))) (λ p d. unless (not (covers p.0.end p.1.opening)) (ComposeUncovered c.line) (λ _. Ok (ends p.0.opening p.1.end, d)))) two
      ∙ passes (covers E P) (ComposeUncovered c.line) (Ok (ends O Q, behind c1 s.right more M)) ((covers_decides E P).1 covered)
      ∙ stands (ends O Q) (c1.line + length s.right) (c.line + length ls) more ((c.jobs ++ L) ++ M) (c.jobs ++ (L ++ M)) (omega arith) (append_assoc c.jobs L M)
  derived (suc left) (by_W {O = O} {E = E} {L = L} P x covered) ls more s h bar u c e n =
      let f = s.field in
      let mid = s.rest ++ more in
      at_line left bar c (tagged 87 f) mid (bare 87 ∷ f ∷ []) Weaken (e ∙ ap (λ z. z ++ more) s.lines) (tagged_fields 87 f (λ z. omega arith) (plain f P s.state)) refl
      ∙ ap (λ o. then_in Text o (λ Z. weaken (derivation t left) bar c.line Z (past c mid))) (spelt (place c.line 2) f P s.state)
      ∙ ap (λ o. then_read o (λ a d. unless (not (covers P a.opening)) (WeakenUncovered c.line) (λ _. Ok (ends P a.end, d)))) (derived left x s.rest more s.premise (omega arith) bar u (past c mid) refl n)
      ∙ passes (covers P O) (WeakenUncovered c.line) (Ok (ends P E, behind (past c mid) s.rest more L)) ((covers_decides P O).1 covered)
      ∙ stands (ends P E) (c.line + 1 + length s.rest) (c.line + length ls) more (c.jobs ++ L) (c.jobs ++ L) (more_lines c.line (tagged 87 f) s.rest ls s.lines) refl
  derived (suc left) (by_S {O = O} {E = E} {L = L} Q x covered) ls more s h bar u c e n =
      let f = s.field in
      let mid = s.rest ++ more in
      at_line left bar c (tagged 83 f) mid (bare 83 ∷ f ∷ []) Shrink (e ∙ ap (λ z. z ++ more) s.lines) (tagged_fields 83 f (λ z. omega arith) (plain f Q s.state)) refl
      ∙ ap (λ o. then_in Text o (λ Z. shrink (derivation t left) bar c.line Z (past c mid))) (spelt (place c.line 2) f Q s.state)
      ∙ ap (λ o. then_read o (λ a d. unless (not (covers a.end Q)) (ShrinkUncovered c.line) (λ _. Ok (ends a.opening Q, d)))) (derived left x s.rest more s.premise (omega arith) bar u (past c mid) refl n)
      ∙ passes (covers E Q) (ShrinkUncovered c.line) (Ok (ends O Q, behind (past c mid) s.rest more L)) ((covers_decides E Q).1 covered)
      ∙ stands (ends O Q) (c.line + 1 + length s.rest) (c.line + length ls) more (c.jobs ++ L) (c.jobs ++ L) (more_lines c.line (tagged 83 f) s.rest ls s.lines) refl
  derived (suc left) (by_F {O = O} {E = E} {L = L} R x opening end untouched) ls more s h bar u c e n =
      let f = s.field in
      let mid = s.rest ++ more in
      at_line left bar c (tagged 70 f) mid (bare 70 ∷ f ∷ []) Frame (e ∙ ap (λ z. z ++ more) s.lines) (tagged_fields 70 f (λ z. omega arith) (plain f R s.state)) refl
      ∙ ap (λ o. then_in Text o (λ Z. frame (derivation t left) bar c.line Z (past c mid))) (spelt (place c.line 2) f R s.state)
      ∙ ap (λ o. then_read o (λ a d. unless (not (apart R a.opening) || not (apart R a.end)) (FrameNamed c.line) (λ _. Ok (ends (overridden a.opening R) (overridden a.end R), d)))) (derived left x s.rest more s.premise (omega arith) (overridden bar R) (both_bar (job_at t) bar R L u untouched) (past c mid) refl n)
      ∙ (λ i. unless (not ((apart_decides R O).1 opening i) || not ((apart_decides R E).1 end i)) (FrameNamed c.line) (λ _. Ok (ends (overridden O R) (overridden E R), behind (past c mid) s.rest more L)))
      ∙ stands (ends (overridden O R) (overridden E R)) (c.line + 1 + length s.rest) (c.line + length ls) more (c.jobs ++ L) (c.jobs ++ L) (more_lines c.line (tagged 70 f) s.rest ls s.lines) refl

  -- lines of bytes that a line may have
  pub tagged_lined : (b : ℕ) (f : List ℕ) → line_byte b ≡ true → each plain_byte f ≡ true → each line_byte (tagged b f) ≡ true
  tagged_lined b f h p = (λ i. h i && each line_byte f) ∙ lined f p

  tree_lined : (x : Tree) (ls : List (List ℕ)) → SpeltLines t x ls → AllByRecursion (λ l. each line_byte l ≡ true) ls
  tree_lined H ls s = subst (AllByRecursion (λ l. each line_byte l ≡ true)) (sym s) (refl, tt)
  tree_lined (A k) ls s = subst (AllByRecursion (λ l. each line_byte l ≡ true)) (sym s.1) (tagged_lined 65 (job_name t k) refl (good_plain (job_name t k) (good_job k s.0)), tt)
  tree_lined (C x y) ls s = subst (AllByRecursion (λ l. each line_byte l ≡ true)) (sym s.lines) (refl, All-append (λ l. each line_byte l ≡ true) s.left s.right (tree_lined x s.left s.first) (tree_lined y s.right s.second))
  tree_lined (W P x) ls s = subst (AllByRecursion (λ l. each line_byte l ≡ true)) (sym s.lines) (tagged_lined 87 s.field refl (plain s.field P s.state), tree_lined x s.rest s.premise)
  tree_lined (S Q x) ls s = subst (AllByRecursion (λ l. each line_byte l ≡ true)) (sym s.lines) (tagged_lined 83 s.field refl (plain s.field Q s.state), tree_lined x s.rest s.premise)
  tree_lined (F R x) ls s = subst (AllByRecursion (λ l. each line_byte l ≡ true)) (sym s.lines) (tagged_lined 70 s.field refl (plain s.field R s.state), tree_lined x s.rest s.premise)

  -- a header line
  header_written : (wanted : headers.Header) (f : List ℕ) (P : State) → Denotes t.facts f P → (c : Cursor) (ls : List (List ℕ)) → c.rest ≡ tagged (header_letter wanted) f ∷ ls → header t wanted c ≡ Ok (P, past c ls)
  header_written wanted f P d c ls e =
      ap (λ x. header_line t wanted x c) e
      ∙ ap (λ fs. then (header_tag wanted (of_field (get_or fs 0 [])) (length fs) c.line) (λ _. then_in Text (state_field t.facts (place c.line 2) (get_or fs 1 [])) (λ s. Ok (s, past c ls)))) (tagged_fields (header_letter wanted) f (no_tab wanted) (plain f P d))
      ∙ ap (λ o. then o (λ _. then_in Text (state_field t.facts (place c.line 2) f) (λ s. Ok (s, past c ls)))) (tag wanted)
      ∙ ap (λ o. then_in Text o (λ s. Ok (s, past c ls))) (spelt (place c.line 2) f P d)
    where
      no_tab : (w : headers.Header) → header_letter w ≡ 9 → ⊥
      no_tab Opening z = omega arith
      no_tab Goal z = omega arith

      tag : (w : headers.Header) → header_tag w (of_field (bare (header_letter w))) 2 c.line ≡ Ok tt
      tag Opening = refl
      tag Goal = refl

  same_state : (P : State) → same P P ≡ true
  same_state P = (same_decides P P refl).1 refl

  none_touched : (L : List ℕ) → Untouched (job_at t) nothing L
  none_touched [] = tt
  none_touched (k ∷ L) = (λ i b h. unnamed_not (mark nothing i) (mark_nothing i) b, none_touched L)

  pub slip_written : (s : List ℕ) (O G : State) (L : List ℕ) → SlipOf t s O G L → judge t s ≡ Ok (plan_from t O G L)
  slip_written s O G L x =
      let b = tagged 66 x.first in
      let g = tagged 71 x.second in
      let ls = b ∷ g ∷ x.rest in
      let bytes : AllByRecursion (λ l. each line_byte l ≡ true) ls = (tagged_lined 66 x.first refl (plain x.first O x.opening), (tagged_lined 71 x.second refl (plain x.second G x.goal), tree_lined x.tree x.rest x.spelt)) in
      let c0 : Cursor = record { line = 1; rest = ls; jobs = [] } in
      let c1 = past c0 (g ∷ x.rest) in
      let c2 = past c1 x.rest in
      let c3 = behind c2 x.rest [] L in
      ap (judge t) x.lines
      ∙ ap (λ o. then_in Text o (λ _. judge_lines t nothing (start (closed ls)))) (looked_closed ls (subst (λ (z : List ℕ). length z ≤ 1048576) x.lines x.short) bytes)
      ∙ ap (λ m. judge_lines t nothing (record { line = 1; rest = m; jobs = [] })) (lines_closed ls (all_free ls bytes))
      ∙ ap (λ o. then_read o (λ P d. then_read (header t Goal d) (λ Q e. then_read (derivation t 80 nothing e) (λ a f. conclude t P Q a f)))) (header_written Opening x.first O x.opening c0 (g ∷ x.rest) refl)
      ∙ ap (λ o. then_read o (λ Q e. then_read (derivation t 80 nothing e) (λ a f. conclude t O Q a f))) (header_written Goal x.second G x.goal c1 x.rest refl)
      ∙ ap (λ o. then_read o (λ a f. conclude t O G a f)) (derived 80 x.derives x.rest [] x.spelt x.shallow nothing (none_touched L) c2 (sym (append-nil x.rest)) (omega (arith, x.few)))
      ∙ ap (λ o. then o (λ _. Ok (plan_from t O G c3.jobs))) (passes (same O O) OpeningDiffers (unless (not (same G G)) EndDiffers (λ _. Ok tt)) (same_state O) ∙ passes (same G G) EndDiffers (Ok tt) (same_state G))
