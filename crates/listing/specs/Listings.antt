-- The text of a bare list: every text is read, or gets its one refusal.
use Rattle.std.specs.Prelude.{◌≡◌, ℕ, ◌+◌, Bool, true, false, not, List, [], ◌∷◌, ◌++◌, length, Some, None, Ok, Err, Option, Result, ◌==◌, nat_le, slice_index_or}
use Rattle.facts.specs.declared.state.State as code_state
use Rattle.facts.specs.States.{State}
use Rattle.facts.specs.Models.{row}
use Rattle.text.specs.declared.tag.Tag.{Tag}
use Rattle.text.specs.declared.tag.Tag.TheVariants.{N, D, B, G, E, W, S, C, F, A, H}
use Rattle.text.specs.Chains.{then, then_in, unless}
use Rattle.text.specs.Looks.{looked}
use Rattle.text.specs.Lines.{lines, fields}
use Rattle.text.specs.Numbered.{Left}
use Rattle.text.specs.Tags.{tag_of}
use Rattle.names.specs.Literals.{state_field}
use Rattle.table.specs.Tables.{Table, place}
use Rattle.table.specs.Jobs.{job_number}
use Rattle.verdict.specs.Verdicts.{Plan, plan_from}
use Rattle.listing.specs.declared.fault.ListingFault.{ListingFault}
use Rattle.listing.specs.declared.fault.ListingFault.TheVariants.{Text, WrongTag, WrongFields, OutOfOrder, Missing, TooManyJobs}
use Rattle.listing.specs.declared.part.Part.{Part}
use Rattle.listing.specs.declared.part.Part.TheVariants.{Opening, Goal, Job}

-- the tags of a list; any other gets 4
abbrev pub part_of : Option Tag → ℕ → Result Part ListingFault
part_of (Some B) at = Ok Opening
part_of (Some G) at = Ok Goal
part_of (Some E) at = Ok Job
part_of (Some N) at = Err (WrongTag at)
part_of (Some D) at = Err (WrongTag at)
part_of (Some W) at = Err (WrongTag at)
part_of (Some S) at = Err (WrongTag at)
part_of (Some C) at = Err (WrongTag at)
part_of (Some F) at = Err (WrongTag at)
part_of (Some A) at = Err (WrongTag at)
part_of (Some H) at = Err (WrongTag at)
part_of None at = Err (WrongTag at)

abbrev pub part_tag : ℕ → List ℕ → Result Part ListingFault
part_tag at l = part_of (tag_of l) at

abbrev pub same_part : Part → Part → Bool
same_part Opening Opening = true
same_part Opening Goal = false
same_part Opening Job = false
same_part Goal Opening = false
same_part Goal Goal = true
same_part Goal Job = false
same_part Job Opening = false
same_part Job Goal = false
same_part Job Job = true

-- a line of the wanted part, with its two fields: 4, then 12, then 5
abbrev pub part_line : Part → ℕ → List ℕ → Result (Unit {0}) ListingFault
part_line wanted at l =
    then (part_tag at l) (λ p.
    unless (not (same_part p wanted)) (OutOfOrder at) (λ _.
    unless (not (length (fields l) == 2)) (WrongFields at) (λ _. Ok tt)))

-- the state in the second field of a line of the wanted part
abbrev pub state_line : Table → Part → ℕ → List ℕ → Result State ListingFault
state_line t wanted at l =
    then (part_line wanted at l) (λ _.
    then_in Text (state_field t.facts (place at 2) (slice_index_or (fields l) 1 [])) (λ s.
    Ok s))

-- the next line is taken, where there is one, and has to be of the wanted part
abbrev pub next_state : Table → Part → ℕ → List (List ℕ) → (State → List (List ℕ) → Result Plan ListingFault) → Result Plan ListingFault
next_state t wanted at [] f = Err (Missing at)
next_state t wanted at (l ∷ ls) f = then (state_line t wanted at l) (λ s. f s ls)

-- one job more: no job 65, and the name of a job
abbrev pub job_line : Table → List ℕ → ℕ → List ℕ → Result (List ℕ) ListingFault
job_line t ks at l =
    then (part_line Job at l) (λ _.
    unless (nat_le 64 (length ks)) (TooManyJobs at) (λ _.
    then_in Text (job_number t (slice_index_or (fields l) 1 []) (place at 2)) (λ k.
    Ok (ks ++ k ∷ []))))

-- E lines in turn, the first of which is line `at`
abbrev pub job_lines : Table → List ℕ → ℕ → List (List ℕ) → Result (List ℕ) ListingFault
job_lines t ks at [] = Ok ks
job_lines t ks at (l ∷ ls) = then (job_line t ks at l) (λ js. job_lines t js (at + 1) ls)

-- the B line, the G line and the E lines
abbrev pub list_lines : Table → List (List ℕ) → Result Plan ListingFault
list_lines t ls =
    next_state t Opening 1 ls (λ O ms.
    next_state t Goal 2 ms (λ G ns.
    then (job_lines t [] 3 ns) (λ ks. Ok (plan_from t O G ks))))

-- the look over the whole text, and then its lines
abbrev pub read_listing : Table → List ℕ → Result Plan ListingFault
read_listing t s = then_in Text (looked s) (λ _. list_lines t (lines s))

-- what a call that takes the next line's state answers, and what of the text is then left
abbrev pub TookState : Table → Part → Left → Result code_state.State ListingFault → Left → Type 0
TookState t wanted m (Ok s) n = (n.number ≡ m.number + 1) × ((f : State → List (List ℕ) → Result Plan ListingFault) → next_state t wanted m.number (lines m.rest) f ≡ f (row s) (lines n.rest))
TookState t wanted m (Err e) n = (f : State → List (List ℕ) → Result Plan ListingFault) → next_state t wanted m.number (lines m.rest) f ≡ Err e
