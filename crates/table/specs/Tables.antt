-- The table in a text: every text is read, or gets its one refusal.
use Rattle.std.specs.Prelude.{ℕ, ◌+◌, not, List, [], ◌∷◌, ◌++◌, length, is_some, Some, None, Ok, Err, Option, Result, ◌==◌, nat_le, nat_lt, slice_index_or}
use Rattle.facts.specs.Worlds.{Job}
use Rattle.text.specs.declared.fault.Place.{Place}
use Rattle.text.specs.declared.tag.Tag.{Tag}
use Rattle.text.specs.declared.tag.Tag.TheVariants.{N, D, B, G, E, W, S, C, F, A, H}
use Rattle.text.specs.Chains.{then, then_in, unless}
use Rattle.text.specs.Looks.{looked}
use Rattle.text.specs.Lines.{lines, fields}
use Rattle.text.specs.Tags.{tag_of}
use Rattle.names.specs.Names.{found_at, name_field}
use Rattle.names.specs.Literals.{state_field}
use Rattle.table.specs.declared.fault.TableFault.{TableFault}
use Rattle.table.specs.declared.fault.TableFault.TheVariants.{Text, WrongTag, WrongFields, NameUsed, TooManyLines, OutOfOrder}
use Rattle.table.specs.Rows.{Row, job_names}

-- the names of the facts, whose numbers are their places from 0, and the jobs
pub record Table : Type 0 where
  pub facts : List (List ℕ)
  pub jobs : List Row

abbrev pub no_rows : Table
no_rows = record { facts = []; jobs = [] }

abbrev pub with_fact : Table → List ℕ → Table
with_fact t n = record { facts = t.facts ++ n ∷ []; jobs = t.jobs }

abbrev pub with_job : Table → Row → Table
with_job t r = record { facts = t.facts; jobs = t.jobs ++ r ∷ [] }

abbrev pub place : ℕ → ℕ → Place
place line field = record { line = line; field = field }

-- a name that none of these is
abbrev pub new_name : List (List ℕ) → List ℕ → Place → Result (List ℕ) TableFault
new_name names f at = then_in Text (name_field f at) (λ n. unless (is_some (found_at n names)) (NameUsed at) (λ _. Ok n))

-- a precondition and an effect
abbrev pub job_states : List (List ℕ) → ℕ → List (List ℕ) → Result Job TableFault
job_states facts at fs =
    then_in Text (state_field facts (place at 3) (slice_index_or fs 2 [])) (λ p.
    then_in Text (state_field facts (place at 4) (slice_index_or fs 3 [])) (λ e.
    Ok (record { precondition = p; effect = e })))

-- a line N: no D line before it, two fields, at most 256 of them, and a name that is new
abbrev pub fact_line : Table → ℕ → List (List ℕ) → Result Table TableFault
fact_line t at fs =
    unless (nat_lt 0 (length t.jobs)) (OutOfOrder at) (λ _.
    unless (not (length fs == 2)) (WrongFields at) (λ _.
    unless (nat_le 256 (length t.facts)) (TooManyLines at) (λ _.
    then (new_name t.facts (slice_index_or fs 1 []) (place at 2)) (λ n.
    Ok (with_fact t n)))))

-- a line D: four fields, at most 128 of them, a name that is new, and two states
abbrev pub job_line : Table → ℕ → List (List ℕ) → Result Table TableFault
job_line t at fs =
    unless (not (length fs == 4)) (WrongFields at) (λ _.
    unless (nat_le 128 (length t.jobs)) (TooManyLines at) (λ _.
    then (new_name (job_names t.jobs) (slice_index_or fs 1 []) (place at 2)) (λ n.
    then (job_states t.facts at fs) (λ j.
    Ok (with_job t (record { name = n; job = j }))))))

abbrev pub by_tag : Option Tag → Table → ℕ → List (List ℕ) → Result Table TableFault
by_tag (Some N) t at fs = fact_line t at fs
by_tag (Some D) t at fs = job_line t at fs
by_tag (Some B) t at fs = Err (WrongTag at)
by_tag (Some G) t at fs = Err (WrongTag at)
by_tag (Some E) t at fs = Err (WrongTag at)
by_tag (Some W) t at fs = Err (WrongTag at)
by_tag (Some S) t at fs = Err (WrongTag at)
by_tag (Some C) t at fs = Err (WrongTag at)
by_tag (Some F) t at fs = Err (WrongTag at)
by_tag (Some A) t at fs = Err (WrongTag at)
by_tag (Some H) t at fs = Err (WrongTag at)
by_tag None t at fs = Err (WrongTag at)

abbrev pub table_line : Table → ℕ → List ℕ → Result Table TableFault
table_line t at l = by_tag (tag_of l) t at (fields l)

-- lines in turn, the first of which is line `at`
abbrev pub table_lines : Table → ℕ → List (List ℕ) → Result Table TableFault
table_lines t at [] = Ok t
table_lines t at (l ∷ ls) = then (table_line t at l) (λ u. table_lines u (at + 1) ls)

abbrev pub read_table : List ℕ → Result Table TableFault
read_table s = then_in Text (looked s) (λ _. table_lines no_rows 1 (lines s))
