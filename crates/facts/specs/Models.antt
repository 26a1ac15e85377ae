-- What stands in the code's values, in the words of the definitions.
use Rattle.std.specs.Prelude.{◌≡◌, ℕ, ◌<◌, ◌≤◌, Bool, false, List, length, Ok, Err, Result, slice_index_or}
use Rattle.filled.specs.Items.{items_of}
use Rattle.facts.specs.declared.state.State as code_state
use Rattle.facts.specs.declared.job.Job as code_job
use Rattle.facts.specs.declared.world.World as code_world
use Rattle.facts.specs.declared.world.WorldFault.{WorldFault}
use Rattle.facts.specs.declared.world.WorldFault.TheVariants.{TooManyFacts}
use Rattle.facts.specs.States.{State}
use Rattle.facts.specs.Worlds.{World, Job}

-- a state is its row of marks
abbrev pub row : code_state.State → State
row s = s.marks

abbrev pub job_of : code_job.Job → Job
job_of j = record { precondition = row j.precondition; effect = row j.effect }

-- a world is its number of facts and which of them hold
abbrev pub size_of : code_world.World → ℕ
size_of w = length (items_of w.facts)

abbrev pub seen : code_world.World → World
seen w = λ i. slice_index_or (items_of w.facts) i false

-- an answer, with its value in the words of the definitions
abbrev pub mapped_ok : {X Y E : Type 0} → (X → Y) → Result X E → Result Y E
mapped_ok f (Ok x) = Ok (f x)
mapped_ok f (Err e) = Err e

-- a call that changes one thing: it leaves what the definition gives, or refuses and leaves it as it was
abbrev pub Leaves : {X E : Type 0} → Result X E → X → Result (Unit {0}) E → X → Type 0
Leaves (Ok y) x r z = (r ≡ Ok tt) × (z ≡ y)
Leaves (Err e) x r z = (r ≡ Err e) × (z ≡ x)

-- the number of a refused making
abbrev pub making_number : WorldFault → ℕ
making_number TooManyFacts = 65

-- a world made of the list: refused, with 65, exactly where it has more than 256 facts
abbrev pub Made : List Bool → Result code_world.World WorldFault → Type 0
Made xs (Ok w) = (length xs ≤ 256) × (size_of w ≡ length xs) × (seen w ≡ λ i. slice_index_or xs i false)
Made xs (Err e) = (256 < length xs) × (making_number e ≡ 65)
