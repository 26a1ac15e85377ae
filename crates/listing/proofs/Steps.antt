-- The steps of a list read, put together.
use Rattle.std.proofs.Common.{◌≡◌, ℕ, List, [], Ok, Result, sym, ap, ◌∙◌, arith}
use Rattle.filled.specs.declared.Filled as filled
use Rattle.filled.specs.Items.{items_of}
use Rattle.facts.specs.declared.state.State as code
use Rattle.facts.specs.States.{State}
use Rattle.facts.specs.Models.{row, mapped_ok}
use Rattle.text.specs.Chains.{then, then_in}
use Rattle.text.specs.Lines.{lines}
use Rattle.text.specs.Numbered.{Left, Numbers}
use Rattle.table.specs.Tables.{Table}
use Rattle.verdict.specs.Verdicts.{Plan, plan_from}
use Rattle.listing.specs.declared.fault.ListingFault.{ListingFault}
use Rattle.listing.specs.declared.fault.ListingFault.TheVariants.{Text}
use Rattle.listing.specs.declared.part.Part.TheVariants.{Opening, Goal}
use Rattle.listing.specs.Listings.{next_state, job_lines, list_lines, read_listing, TookState}

-- what follows the goal, and the opening
abbrev pub last : Table → State → State → Result (List ℕ) ListingFault → Result Plan ListingFault
last t O G r = then r (λ ks. Ok (plan_from t O G ks))

abbrev pub second : Table → State → State → List (List ℕ) → Result Plan ListingFault
second t O G ns = last t O G (job_lines t [] 3 ns)

abbrev pub first : Table → State → List (List ℕ) → Result Plan ListingFault
first t O ms = next_state t Goal 2 ms (second t O)

pub list_read : (t : Table) (s : List ℕ) (r : Result (filled.Filled ℕ 64) ListingFault) (O G : code.State) (m n k : Left) → Numbers s (Ok m) → TookState t Opening m (Ok O) n → TookState t Goal n (Ok G) k → mapped_ok items_of r ≡ job_lines t [] k.number (lines k.rest) → read_listing t s ≡ last t (row O) (row G) (mapped_ok items_of r)
list_read t s r O G m n k (whole, rest, one) (next, o) (after, g) j =
    let two : 2 ≡ n.number = omega (arith, next, one) in
    let three : 3 ≡ k.number = omega (arith, after, next, one) in
    ap (λ (x : Result (Unit {0}) _). then_in Text x (λ _. list_lines t (lines s))) whole
    ∙ ap (λ z. list_lines t (lines z)) (sym rest)
    ∙ ap (λ i. next_state t Opening i (lines m.rest) (first t)) (sym one)
    ∙ o (first t)
    ∙ ap (λ i. next_state t Goal i (lines n.rest) (second t (row O))) two
    ∙ g (second t (row O))
    ∙ ap (λ i. last t (row O) (row G) (job_lines t [] i (lines k.rest))) three
    ∙ ap (last t (row O) (row G)) (sym j)
