-- What is read as a derivation is spelt so, and the six rules make it one.
use Rattle.std.proofs.Common.{◌≡◌, ℕ, zero, suc, ◌<◌, ◌≤◌, true, not, List, [], ◌∷◌, ◌++◌, length, get_or, Some, Ok, sym, refl, ap, ◌∙◌, subst, append_assoc, append-nil, arith}
use Rattle.std.proofs.lemmas.List.{length-map, length_push}
use Rattle.std.specs.List.{AllByRecursion}
use Rattle.std.proofs.lemmas.Bool.{leb-false, not-false, or_parts}
use Rattle.facts.specs.States.{State, overridden, covers, apart}
use Rattle.facts.proofs.Tests.{covers_decides, apart_decides}
use Rattle.rules.specs.Rules.{Tree, depth, Derives, Untouched}
use Rattle.rules.specs.Rules.Tree.{H, A, C, W, S, F}
use Rattle.rules.specs.Rules.Derives.{by_H, by_A, by_C, by_W, by_S, by_F}
use Rattle.rules.proofs.Frames.{bars_both, untouched_append}
use Rattle.text.specs.declared.fault.Place.{Place}
use Rattle.text.specs.Lines.{fields}
use Rattle.text.specs.Tags.{tag_of}
use Rattle.text.specs.declared.fault.TextFault.TheVariants.{BadName, UnknownName}
use Rattle.text.specs.Chains.{or_else}
use Rattle.names.specs.Names.{good_name, found_at, name_field}
use Rattle.text.proofs.Undoing.{same_ok, then_ok, then_in_ok, unless_ok}
use Rattle.names.proofs.Reading.{found_is, field_read}
use Rattle.table.specs.Rows.{Row, job_names}
use Rattle.table.specs.Tables.{Table, place}
use Rattle.table.specs.Jobs.{job_number, job_at}
use Rattle.verdict.specs.declared.rule.Rule as rules
use Rattle.verdict.specs.declared.rule.Rule.TheVariants.{Halt, Apply, Compose, Weaken, Shrink, Frame}
use Rattle.verdict.specs.Lines.{rule_tag}
use Rattle.verdict.specs.Verdicts.{Ends, Cursor, Read, Reader, past, by_rule, rule_line, derivation}
use Rattle.verdict.specs.Grammar.{tagged, job_name, SpeltLines}
use Rattle.verdict.specs.Statements.{FullRow}
use Rattle.verdict.proofs.Undoing.{read_ok, else_ok}
use Rattle.verdict.proofs.Letters.{rule_text, rule_read}
use Rattle.verdict.proofs.Places.{nothing_places, over_places, denotes_places, full_at}

-- a derivation at the front of the lines from c on, which d stands behind
pub record Front (t : Table) (left : ℕ) (bar : State) (c d : Cursor) (a : Ends) : Type 0 where
  pub tree : Tree
  pub lines : List (List ℕ)
  pub jobs : List ℕ
  pub rest : c.rest ≡ lines ++ d.rest
  pub more : d.jobs ≡ c.jobs ++ jobs
  pub few : length c.jobs ≤ 64 → length d.jobs ≤ 64
  pub spelt : SpeltLines t tree lines
  pub shallow : depth tree ≤ left
  pub derives : Derives (job_at t) tree a.opening a.end jobs
  pub clear : Untouched (job_at t) bar jobs
  pub opens : length a.opening ≡ 256
  pub ends : length a.end ≡ 256

-- a job that was found
pub record JobNamed (t : Table) (f : List ℕ) (k : ℕ) : Type 0 where
  pub name : f ≡ job_name t k
  pub below : k < length t.jobs

located : (t : Table) (f n : List ℕ) (i k : ℕ) → f ≡ n → found_at n (job_names t.jobs) ≡ Some i → i ≡ k → JobNamed t f k
located t f n i k e h same =
    let found = found_is 0 n (job_names t.jobs) i h in
    let there : found.place ≡ k = omega (arith, found.counted) in
    record { name = e ∙ sym found.is ∙ ap (λ m. get_or (job_names t.jobs) m []) there; below = omega (arith, found.below, length-map t.jobs (λ (r : Row). r.name)) }

pub number_read : (t : Table) (f : List ℕ) (at : Place) (k : ℕ) → job_number t f at ≡ Ok k → JobNamed t f k
number_read t f at k h =
    let a = then_ok (name_field f at) (λ n. or_else (found_at n (job_names t.jobs)) (UnknownName at) (λ i. Ok i)) k h in
    let b = unless_ok (not (good_name f)) (BadName at) (λ _. Ok f) a.value a.first in
    let c = else_ok (found_at a.value (job_names t.jobs)) (UnknownName at) (λ i. Ok i) k a.second in
    located t f a.value c.value k (same_ok _ _ b.second) c.first (same_ok _ _ c.second)

abbrev Whole : (t : Table) (left : ℕ) (bar : State) (c : Cursor) → Ends × Cursor → Type 0
Whole t left bar c p = Front t left bar c p.1 p.0

-- one line, its premises read by `read`
module _ (t : Table) (full : AllByRecursion FullRow t.jobs) (left : ℕ) (read : Reader) (ih : (bar : State) (c : Cursor) (p : Ends × Cursor) → read bar c ≡ Ok p → Whole t left bar c p) (bar : State) (c : Cursor) (l : List ℕ) (ls : List (List ℕ)) (here : c.rest ≡ l ∷ ls) where
  abbrev f : List ℕ
  f = get_or (fields l) 1 []

  abbrev Step : rules.Rule → Type 0
  Step r = (p : Ends × Cursor) → l ≡ rule_text r f → by_rule t r read bar c.line (fields l) (past c ls) ≡ Ok p → Whole t (suc left) bar c p

  halt : Step Halt
  halt p s h =
      subst (Whole t (suc left) bar c) (same_ok _ _ h) (record {
        tree = H;
        lines = l ∷ [];
        jobs = [];
        rest = here;
        more = sym (append-nil c.jobs);
        few = λ k. k;
        spelt = ap (λ x. x ∷ []) s;
        shallow = omega arith;
        derives = by_H;
        clear = tt;
        opens = nothing_places;
        ends = nothing_places;
      })

  apply : Step Apply
  apply p s h =
      let a = unless_ok _ _ _ _ h in
      let b = then_in_ok _ _ _ _ a.second in
      let k = b.value in
      let d = unless_ok _ _ _ _ b.second in
      let named = number_read t f (place c.line 2) k b.first in
      let row = full_at t.jobs k full in
      let room : length c.jobs < 64 = leb-false 64 (length c.jobs) a.test in
      let longer = length_push c.jobs k in
      subst (Whole t (suc left) bar c) (same_ok _ _ d.second) (record {
        tree = A k;
        lines = l ∷ [];
        jobs = k ∷ [];
        rest = here;
        more = refl;
        few = λ _. omega arith;
        spelt = (named.below, ap (λ x. x ∷ []) (s ∙ ap (tagged 65) named.name));
        shallow = omega arith;
        derives = by_A k;
        clear = ((apart_decides bar (job_at t k).effect).0 (not-false (apart bar (job_at t k).effect) d.test), tt);
        opens = row.precondition;
        ends = over_places (job_at t k).precondition (job_at t k).effect row.precondition row.effect;
      })

  compose : Step Compose
  compose p s h =
      let both = read_ok _ _ _ h in
      let one = read_ok _ _ _ both.first in
      let two = read_ok _ _ _ one.second in
      let x = ih bar (past c ls) (one.value, one.cursor) one.first in
      let y = ih bar one.cursor (two.value, two.cursor) two.first in
      let pair = same_ok _ _ two.second in
      let test = unless_ok _ _ _ _ both.second in
      let covered : covers one.value.end two.value.opening ≡ true = ap (λ (q : (Ends × Ends) × Cursor). covers q.0.0.end q.0.1.opening) pair ∙ not-false (covers both.value.0.end both.value.1.opening) test.test in
      let done = ap (λ (q : (Ends × Ends) × Cursor). (record { opening = q.0.0.opening; end = q.0.1.end }, q.1)) pair ∙ same_ok _ _ test.second in
      subst (Whole t (suc left) bar c) done (record {
        tree = C x.tree y.tree;
        lines = l ∷ (x.lines ++ y.lines);
        jobs = x.jobs ++ y.jobs;
        rest = here ∙ ap (λ m. l ∷ m) (x.rest ∙ ap (λ m. x.lines ++ m) y.rest ∙ sym (append_assoc x.lines y.lines two.cursor.rest));
        more = y.more ∙ ap (λ js. js ++ y.jobs) x.more ∙ append_assoc c.jobs x.jobs y.jobs;
        few = λ k. y.few (x.few k);
        spelt = record { left = x.lines; right = y.lines; lines = ap (λ m. m ∷ (x.lines ++ y.lines)) s; first = x.spelt; second = y.spelt };
        shallow = omega (arith, x.shallow, y.shallow);
        derives = by_C x.derives y.derives ((covers_decides one.value.end two.value.opening).0 covered);
        clear = untouched_append (job_at t) bar x.jobs y.jobs x.clear y.clear;
        opens = x.opens;
        ends = y.ends;
      })

  weaken : Step Weaken
  weaken p s h =
      let a = then_in_ok _ _ _ _ h in
      let P = a.value in
      let one = read_ok _ _ _ a.second in
      let x = ih bar (past c ls) (one.value, one.cursor) one.first in
      let test = unless_ok _ _ _ _ one.second in
      let spells = field_read t.facts (place c.line 2) f P a.first in
      subst (Whole t (suc left) bar c) (same_ok _ _ test.second) (record {
        tree = W P x.tree;
        lines = l ∷ x.lines;
        jobs = x.jobs;
        rest = here ∙ ap (λ m. l ∷ m) x.rest;
        more = x.more;
        few = x.few;
        spelt = record { field = f; rest = x.lines; lines = ap (λ m. m ∷ x.lines) s; state = spells; premise = x.spelt };
        shallow = omega (arith, x.shallow);
        derives = by_W P x.derives ((covers_decides P one.value.opening).0 (not-false (covers P one.value.opening) test.test));
        clear = x.clear;
        opens = denotes_places t.facts f P spells;
        ends = x.ends;
      })

  shrink : Step Shrink
  shrink p s h =
      let a = then_in_ok _ _ _ _ h in
      let Q = a.value in
      let one = read_ok _ _ _ a.second in
      let x = ih bar (past c ls) (one.value, one.cursor) one.first in
      let test = unless_ok _ _ _ _ one.second in
      let spells = field_read t.facts (place c.line 2) f Q a.first in
      subst (Whole t (suc left) bar c) (same_ok _ _ test.second) (record {
        tree = S Q x.tree;
        lines = l ∷ x.lines;
        jobs = x.jobs;
        rest = here ∙ ap (λ m. l ∷ m) x.rest;
        more = x.more;
        few = x.few;
        spelt = record { field = f; rest = x.lines; lines = ap (λ m. m ∷ x.lines) s; state = spells; premise = x.spelt };
        shallow = omega (arith, x.shallow);
        derives = by_S Q x.derives ((covers_decides one.value.end Q).0 (not-false (covers one.value.end Q) test.test));
        clear = x.clear;
        opens = x.opens;
        ends = denotes_places t.facts f Q spells;
      })

  frame : Step Frame
  frame p s h =
      let a = then_in_ok _ _ _ _ h in
      let R = a.value in
      let one = read_ok _ _ _ a.second in
      let x = ih (overridden bar R) (past c ls) (one.value, one.cursor) one.first in
      let test = unless_ok _ _ _ _ one.second in
      let O = one.value.opening in
      let E = one.value.end in
      let apart_both = or_parts (not (apart R O)) (not (apart R E)) test.test in
      let spells = field_read t.facts (place c.line 2) f R a.first in
      let wide = denotes_places t.facts f R spells in
      let bars = bars_both (job_at t) bar R x.jobs x.clear in
      subst (Whole t (suc left) bar c) (same_ok _ _ test.second) (record {
        tree = F R x.tree;
        lines = l ∷ x.lines;
        jobs = x.jobs;
        rest = here ∙ ap (λ m. l ∷ m) x.rest;
        more = x.more;
        few = x.few;
        spelt = record { field = f; rest = x.lines; lines = ap (λ m. m ∷ x.lines) s; state = spells; premise = x.spelt };
        shallow = omega (arith, x.shallow);
        derives = by_F R x.derives ((apart_decides R O).0 (not-false (apart R O) apart_both.0)) ((apart_decides R E).0 (not-false (apart R E) apart_both.1)) bars.1;
        clear = bars.0;
        opens = over_places O R x.opens wide;
        ends = over_places E R x.ends wide;
      })

  step : (r : rules.Rule) → Step r
  step Halt = halt
  step Apply = apply
  step Compose = compose
  step Weaken = weaken
  step Shrink = shrink
  step Frame = frame

-- a rule line that was read
record LineRead (rest : List (List ℕ)) (c : Cursor) (f : rules.Rule → List (List ℕ) → Cursor → Read Ends) (p : Ends × Cursor) : Type 0 where
  line : List ℕ
  lines : List (List ℕ)
  rule : rules.Rule
  is : rest ≡ line ∷ lines
  tag : rule_tag (tag_of line) (length (fields line)) c.line ≡ Ok rule
  then_so : f rule (fields line) (past c lines) ≡ Ok p

line_ok : (rest : List (List ℕ)) (c : Cursor) (f : rules.Rule → List (List ℕ) → Cursor → Read Ends) (p : Ends × Cursor) → rule_line rest c f ≡ Ok p → LineRead rest c f p
line_ok [] c f p h = let z : ◌≡◌ {A = ℕ} 0 1 = cc in absurd (omega arith)
line_ok (l ∷ ls) c f p h = let a = then_ok _ _ _ h in record { line = l; lines = ls; rule = a.value; is = refl; tag = a.first; then_so = a.second }

pub derivation_read : (t : Table) → AllByRecursion FullRow t.jobs → (left : ℕ) (bar : State) (c : Cursor) (p : Ends × Cursor) → derivation t left bar c ≡ Ok p → Whole t left bar c p
derivation_read t full zero bar c p h = let a = line_ok c.rest c _ p h in let k = a.then_so in let z : ◌≡◌ {A = ℕ} 0 1 = cc in absurd (omega arith)
derivation_read t full (suc left) bar c p h =
    let a = line_ok c.rest c _ p h in
    step t full left (derivation t left) (derivation_read t full left) bar c a.line a.lines a.is a.rule p (rule_read a.line c.line a.rule a.tag) a.then_so
