-- What is read as a list is the text of that list.
use Rattle.std.proofs.Common.{◌≡◌, ℕ, ◌+◌, ◌<◌, ◌≤◌, true, eqb, List, [], ◌∷◌, ◌++◌, length, get_or, Some, None, Ok, Option, Result, sym, refl, ap, ◌∙◌, subst, append_assoc, append-nil, arith}
use Rattle.std.proofs.lemmas.Bool.{eqb-true, not-false, leb-false}
use Rattle.std.proofs.lemmas.List.{length_push}
use Rattle.std.specs.List.{AllByRecursion}
use Rattle.facts.specs.States.{State}
use Rattle.text.specs.declared.tag.Tag.{Tag}
use Rattle.text.specs.declared.tag.Tag.TheVariants as tag
use Rattle.text.specs.Lines.{lines, fields}
use Rattle.text.specs.Tags.{tag_of}
use Rattle.text.specs.Spelling.{closed}
use Rattle.text.proofs.Undoing.{then_ok, then_in_ok, unless_ok, same_ok}
use Rattle.text.proofs.Tags.{tag_letter}
use Rattle.text.proofs.Endings.{looked_whole}
use Rattle.names.specs.Spelling.{Denotes}
use Rattle.names.proofs.Reading.{field_read}
use Rattle.table.specs.Tables.{Table, place}
use Rattle.verdict.specs.Verdicts.{Plan, plan_from}
use Rattle.verdict.specs.Grammar.{tagged, job_name}
use Rattle.verdict.proofs.Letters.{two_fields}
use Rattle.verdict.proofs.Reading.{number_read}
use Rattle.listing.specs.declared.fault.ListingFault.{ListingFault}
use Rattle.listing.specs.declared.part.Part.{Part}
use Rattle.listing.specs.declared.part.Part.TheVariants.{Opening, Goal, Job}
use Rattle.listing.specs.Listings.{part_of, same_part, part_line, next_state, job_lines, read_listing}
use Rattle.listing.specs.Grammar.{job_texts, ListOf}

abbrev pub part_letter : Part → ℕ
part_letter Opening = 66
part_letter Goal = 71
part_letter Job = 69

part_is : (p w : Part) → same_part p w ≡ true → p ≡ w
part_is Opening Opening h = refl
part_is Opening Goal h = absurd (cc)
part_is Opening Job h = absurd (cc)
part_is Goal Opening h = absurd (cc)
part_is Goal Goal h = refl
part_is Goal Job h = absurd (cc)
part_is Job Opening h = absurd (cc)
part_is Job Goal h = absurd (cc)
part_is Job Job h = refl

by_tag : (p : Part) (at : ℕ) (l : List ℕ) (g : Option Tag) → tag_of l ≡ g → part_of g at ≡ Ok p → length (fields l) ≡ 2 → l ≡ tagged (part_letter p) (get_or (fields l) 1 [])
by_tag p at l (Some tag.B) e k n = subst (λ (q : Part). l ≡ tagged (part_letter q) (get_or (fields l) 1 [])) (same_ok _ _ k) (two_fields l 66 (tag_letter tag.B _ e) n)
by_tag p at l (Some tag.G) e k n = subst (λ (q : Part). l ≡ tagged (part_letter q) (get_or (fields l) 1 [])) (same_ok _ _ k) (two_fields l 71 (tag_letter tag.G _ e) n)
by_tag p at l (Some tag.E) e k n = subst (λ (q : Part). l ≡ tagged (part_letter q) (get_or (fields l) 1 [])) (same_ok _ _ k) (two_fields l 69 (tag_letter tag.E _ e) n)
by_tag p at l (Some tag.N) e k n = absurd (cc)
by_tag p at l (Some tag.D) e k n = absurd (cc)
by_tag p at l (Some tag.W) e k n = absurd (cc)
by_tag p at l (Some tag.S) e k n = absurd (cc)
by_tag p at l (Some tag.C) e k n = absurd (cc)
by_tag p at l (Some tag.F) e k n = absurd (cc)
by_tag p at l (Some tag.A) e k n = absurd (cc)
by_tag p at l (Some tag.H) e k n = absurd (cc)
by_tag p at l None e k n = absurd (cc)

-- a line of the wanted part, and what stands in its field
pub part_read : (wanted : Part) (at : ℕ) (l : List ℕ) (u : Unit {0}) → part_line wanted at l ≡ Ok u → l ≡ tagged (part_letter wanted) (get_or (fields l) 1 [])
part_read wanted at l u h =
    let a = then_ok _ _ _ h in
    let b = unless_ok _ _ _ _ a.second in
    let c = unless_ok _ _ _ _ b.second in
    let p = part_is a.value wanted (not-false (same_part a.value wanted) b.test) in
    let two = eqb-true (length (fields l)) 2 (not-false (eqb (length (fields l)) 2) c.test) in
    subst (λ (q : Part). l ≡ tagged (part_letter q) (get_or (fields l) 1 [])) p (by_tag a.value at l (tag_of l) refl a.first two)

-- the state of the next line that was taken
record Taken (t : Table) (wanted : Part) (ls : List (List ℕ)) (f : State → List (List ℕ) → Result Plan ListingFault) (p : Plan) : Type 0 where
  field : List ℕ
  rest : List (List ℕ)
  state : State
  is : ls ≡ tagged (part_letter wanted) field ∷ rest
  denotes : Denotes t.facts field state
  goes : f state rest ≡ Ok p

taken : (t : Table) (wanted : Part) (at : ℕ) (ls : List (List ℕ)) (f : State → List (List ℕ) → Result Plan ListingFault) (p : Plan) → next_state t wanted at ls f ≡ Ok p → Taken t wanted ls f p
taken t wanted at [] f p h = absurd (cc)
taken t wanted at (l ∷ ls) f p h =
    let a = then_ok _ _ _ h in
    let b = then_ok _ _ _ a.first in
    let c = then_in_ok _ _ _ _ b.second in
    let x = get_or (fields l) 1 [] in
    let same = same_ok _ _ c.second in
    record { field = x; rest = ls; state = a.value; is = ap (λ y. y ∷ ls) (part_read wanted at l b.value b.first); denotes = subst (Denotes t.facts x) same (field_read t.facts (place at 2) x c.value c.first); goes = a.second }

-- the E lines that were read
record Jobs (t : Table) (ks : List ℕ) (ls : List (List ℕ)) (js : List ℕ) : Type 0 where
  more : List ℕ
  all : js ≡ ks ++ more
  lines : ls ≡ job_texts t more
  few : length ks ≤ 64 → length js ≤ 64
  known : AllByRecursion (λ k. k < length t.jobs) more

jobs_read : (t : Table) (ks : List ℕ) (at : ℕ) (ls : List (List ℕ)) (js : List ℕ) → job_lines t ks at ls ≡ Ok js → Jobs t ks ls js
jobs_read t ks at [] js h = let e = same_ok _ _ h in record { more = []; all = sym e ∙ sym (append-nil ks); lines = refl; few = λ k. omega (arith, ap (λ (x : List ℕ). length x) e); known = tt }
jobs_read t ks at (l ∷ ls) js h =
    let a = then_ok _ _ _ h in
    let b = then_ok _ _ _ a.first in
    let c = unless_ok _ _ _ _ b.second in
    let d = then_in_ok _ _ _ _ c.second in
    let k = d.value in
    let named = number_read t (get_or (fields l) 1 []) (place at 2) k d.first in
    let room = leb-false 64 (length ks) c.test in
    let one : a.value ≡ ks ++ k ∷ [] = sym (same_ok _ _ d.second) in
    let r = jobs_read t a.value (at + 1) ls js a.second in
    let grown : length a.value ≡ length ks + 1 = ap (λ (x : List ℕ). length x) one ∙ length_push ks k in
    record {
      more = k ∷ r.more;
      all = r.all ∙ ap (λ x. x ++ r.more) one ∙ append_assoc ks (k ∷ []) r.more;
      lines = ap (λ x. x ∷ ls) (part_read Job at l b.value b.first ∙ ap (tagged 69) named.name) ∙ ap (λ x. tagged 69 (job_name t k) ∷ x) r.lines;
      few = λ n. r.few (omega (arith, grown, room));
      known = (named.below, r.known);
    }

pub list_is_read : (t : Table) (s : List ℕ) (O G : State) (L : List ℕ) → read_listing t s ≡ Ok (plan_from t O G L) → ListOf t s O G L
list_is_read t s O G L h =
    let a = then_in_ok _ _ _ _ h in
    let w = looked_whole s a.first in
    let b = taken t Opening 1 (lines s) _ _ a.second in
    let g = taken t Goal 2 b.rest _ _ b.goes in
    let e = then_ok _ _ _ g.goes in
    let j = jobs_read t [] 3 g.rest e.value e.first in
    let plan = same_ok _ _ e.second in
    let jobs : j.more ≡ L = sym j.all ∙ ap (λ (p : Plan). p.numbers) plan in
    let text : lines s ≡ tagged 66 b.field ∷ tagged 71 g.field ∷ job_texts t L = b.is ∙ ap (λ m. tagged 66 b.field ∷ m) (g.is ∙ ap (λ m. tagged 71 g.field ∷ m) (j.lines ∙ ap (job_texts t) jobs)) in
    record {
      short = w.short;
      first = b.field;
      second = g.field;
      lines = sym w.lined ∙ ap closed text;
      opening = subst (Denotes t.facts b.field) (ap (λ (p : Plan). p.opening) plan) b.denotes;
      goal = subst (Denotes t.facts g.field) (ap (λ (p : Plan). p.goal) plan) g.denotes;
      jobs = record { few = subst (λ (x : List ℕ). length x ≤ 64) (ap (λ (p : Plan). p.numbers) plan) (j.few (omega arith)); known = subst (AllByRecursion (λ k. k < length t.jobs)) jobs j.known };
    }
