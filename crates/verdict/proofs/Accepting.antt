-- A text is accepted exactly when it is a slip of what is answered.
use Rattle.std.proofs.Common.{◌≡◌, ℕ, ◌≤◌, true, false, not, List, [], ◌∷◌, ◌++◌, length, get_or, Ok, sym, refl, ap, ◌∙◌, subst, append-nil, arith}
use Rattle.std.proofs.lemmas.Bool.{not-false}
use Rattle.facts.specs.States.{State, nothing, same}
use Rattle.facts.proofs.Tests.{same_decides}
use Rattle.rules.specs.Rules.{Derives}
use Rattle.text.specs.Chains.{then, unless}
use Rattle.text.specs.Lines.{lines, fields}
use Rattle.text.specs.Spelling.{closed}
use Rattle.names.specs.Spelling.{Denotes}
use Rattle.text.proofs.Undoing.{same_ok, then_ok, then_in_ok, unless_ok}
use Rattle.names.proofs.Reading.{field_read}
use Rattle.text.proofs.Endings.{looked_whole}
use Rattle.table.specs.Tables.{Table, place}
use Rattle.table.specs.Jobs.{job_at}
use Rattle.verdict.specs.declared.fault.SlipFault.TheVariants.{LineAfter, OpeningDiffers, EndDiffers}
use Rattle.verdict.specs.declared.rule.Header.{Header}
use Rattle.verdict.specs.declared.rule.Header.TheVariants.{Opening, Goal}
use Rattle.verdict.specs.Verdicts.{Ends, Cursor, Plan, plan_from, past, header_line, conclude, finish, agree, some_left, start, judge_lines, judge}
use Rattle.verdict.specs.Grammar.{tagged, SlipOf, AcceptsExactly}
use Rattle.verdict.specs.Statements.{ProperTable}
use Rattle.verdict.proofs.Undoing.{read_ok}
use Rattle.verdict.proofs.Letters.{header_letter, header_read}
use Rattle.verdict.proofs.Places.{denotes_places}
use Rattle.verdict.proofs.Reading.{derivation_read}
use Rattle.verdict.proofs.Writing.{slip_written}

-- a header line that was read
record Headed (t : Table) (wanted : Header) (c : Cursor) (p : State × Cursor) : Type 0 where
  field : List ℕ
  lines : List (List ℕ)
  is : c.rest ≡ tagged (header_letter wanted) field ∷ lines
  state : Denotes t.facts field p.0
  cursor : p.1 ≡ past c lines

headed : (t : Table) (wanted : Header) (rest : List (List ℕ)) (c : Cursor) (p : State × Cursor) → c.rest ≡ rest → header_line t wanted rest c ≡ Ok p → Headed t wanted c p
headed t wanted [] c p e h = let z : ◌≡◌ {A = ℕ} 0 1 = cc in absurd (omega arith)
headed t wanted (l ∷ ls) c p e h =
    let a = then_ok _ _ _ h in
    let b = then_in_ok _ _ _ _ a.second in
    let f = get_or (fields l) 1 [] in
    let done = same_ok _ _ b.second in
    record {
      field = f;
      lines = ls;
      is = e ∙ ap (λ x. x ∷ ls) (header_read wanted l c.line a.value a.first);
      state = subst (Denotes t.facts f) (ap (λ (q : State × Cursor). q.0) done) (field_read t.facts (place c.line 2) f b.value b.first);
      cursor = sym (ap (λ (q : State × Cursor). q.1) done);
    }

none_left : (ls : List (List ℕ)) → some_left ls ≡ false → ls ≡ []
none_left [] h = refl
none_left (l ∷ ls) h = let z : ◌≡◌ {A = ℕ} 0 1 = cc in absurd (omega arith)

-- what was concluded
record Concluded (t : Table) (O G : State) (a : Ends) (c : Cursor) (p : Plan) : Type 0 where
  done : c.rest ≡ []
  opening : same a.opening O ≡ true
  goal : same a.end G ≡ true
  plan : plan_from t O G c.jobs ≡ p

concluded : (t : Table) (O G : State) (a : Ends) (c : Cursor) (p : Plan) → conclude t O G a c ≡ Ok p → Concluded t O G a c p
concluded t O G a c p h =
    let f = read_ok (finish c) (λ _ d. then (agree O G a) (λ _. Ok (plan_from t O G d.jobs))) p h in
    let x = unless_ok (some_left c.rest) (LineAfter c.line) (λ _. Ok (tt, c)) (f.value, f.cursor) f.first in
    let g = then_ok (agree O G a) (λ _. Ok (plan_from t O G f.cursor.jobs)) p f.second in
    let y = unless_ok (not (same a.opening O)) OpeningDiffers (λ _. unless (not (same a.end G)) EndDiffers (λ _. Ok tt)) g.value g.first in
    let z = unless_ok (not (same a.end G)) EndDiffers (λ _. Ok tt) g.value y.second in
    let here : c ≡ f.cursor = ap (λ (q : Unit {0} × Cursor). q.1) (same_ok _ _ x.second) in
    record { done = none_left c.rest x.test; opening = not-false (same a.opening O) y.test; goal = not-false (same a.end G) z.test; plan = ap (λ (d : Cursor). plan_from t O G d.jobs) here ∙ same_ok _ _ g.second }

module _ (t : Table) (proper : ProperTable t) where
  -- the lines that were read, from the first on
  lines_read : (s : List ℕ) (O G : State) (L : List ℕ) → length s ≤ 1048576 → closed (lines s) ≡ s → judge_lines t nothing (start s) ≡ Ok (plan_from t O G L) → SlipOf t s O G L
  lines_read s O G L short whole h =
      let b = read_ok _ _ _ h in
      let g = read_ok _ _ _ b.second in
      let d = read_ok _ _ _ g.second in
      let k = concluded t b.value g.value d.value d.cursor (plan_from t O G L) d.second in
      let first = headed t Opening (lines s) (start s) (b.value, b.cursor) refl b.first in
      let second = headed t Goal b.cursor.rest b.cursor (g.value, g.cursor) refl g.first in
      let x = derivation_read t proper.places 80 nothing g.cursor (d.value, d.cursor) d.first in
      let c1 : b.cursor.rest ≡ first.lines = ap (λ (c : Cursor). c.rest) first.cursor in
      let c2 : g.cursor.rest ≡ second.lines = ap (λ (c : Cursor). c.rest) second.cursor in
      let j2 : g.cursor.jobs ≡ [] = ap (λ (c : Cursor). c.jobs) second.cursor ∙ ap (λ (c : Cursor). c.jobs) first.cursor in
      let all : g.cursor.rest ≡ x.lines = x.rest ∙ ap (λ m. x.lines ++ m) k.done ∙ append-nil x.lines in
      let text : lines s ≡ tagged 66 first.field ∷ tagged 71 second.field ∷ x.lines = first.is ∙ ap (λ m. tagged 66 first.field ∷ m) (sym c1 ∙ second.is ∙ ap (λ m. tagged 71 second.field ∷ m) (sym c2 ∙ all)) in
      let O_is : b.value ≡ O = ap (λ (p : Plan). p.opening) k.plan in
      let G_is : g.value ≡ G = ap (λ (p : Plan). p.goal) k.plan in
      let L_is : x.jobs ≡ L = sym (x.more ∙ ap (λ js. js ++ x.jobs) j2) ∙ ap (λ (p : Plan). p.numbers) k.plan in
      let o_size = denotes_places t.facts first.field b.value first.state in
      let g_size = denotes_places t.facts second.field g.value second.state in
      let opens : d.value.opening ≡ O = (same_decides d.value.opening b.value (x.opens ∙ sym o_size)).0 k.opening ∙ O_is in
      let closes : d.value.end ≡ G = (same_decides d.value.end g.value (x.ends ∙ sym g_size)).0 k.goal ∙ G_is in
      let none : length g.cursor.jobs ≤ 64 = omega (arith, ap (λ (js : List ℕ). length js) j2) in
      record {
        short = short;
        first = first.field;
        second = second.field;
        tree = x.tree;
        rest = x.lines;
        lines = sym whole ∙ ap closed text;
        opening = subst (Denotes t.facts first.field) O_is first.state;
        goal = subst (Denotes t.facts second.field) G_is second.state;
        spelt = x.spelt;
        shallow = x.shallow;
        few = subst (λ (js : List ℕ). length js ≤ 64) (ap (λ (p : Plan). p.numbers) k.plan) (x.few none);
        derives = subst (λ (js : List ℕ). Derives (job_at t) x.tree O G js) L_is (subst (λ (P : State). Derives (job_at t) x.tree O P x.jobs) closes (subst (λ (P : State). Derives (job_at t) x.tree P d.value.end x.jobs) opens x.derives));
      }

  pub slip_read : (s : List ℕ) (O G : State) (L : List ℕ) → judge t s ≡ Ok (plan_from t O G L) → SlipOf t s O G L
  slip_read s O G L h =
      let a = then_in_ok _ _ _ _ h in
      let w = looked_whole s a.first in
      lines_read s O G L w.short w.lined a.second

  pub accepts_exactly : (s : List ℕ) → AcceptsExactly t s (judge t s)
  accepts_exactly s O G L = (slip_read s O G L, slip_written t proper s O G L)
