-- The jobs of a table by their numbers.
use Rattle.std.specs.Prelude.{ℕ, List, [], Ok, Result, slice_index_or}
use Rattle.facts.specs.States.{nothing}
use Rattle.facts.specs.Worlds.{Job}
use Rattle.text.specs.declared.fault.Place.{Place}
use Rattle.text.specs.declared.fault.TextFault.{TextFault}
use Rattle.text.specs.declared.fault.TextFault.TheVariants.{UnknownName}
use Rattle.text.specs.Chains.{then, or_else}
use Rattle.names.specs.Names.{found_at, name_field}
use Rattle.table.specs.Rows.{Row, job_names}
use Rattle.table.specs.Tables.{Table}

-- the number of the job that a field names
abbrev pub job_number : Table → List ℕ → Place → Result ℕ TextFault
job_number t f at = then (name_field f at) (λ n. or_else (found_at n (job_names t.jobs)) (UnknownName at) (λ k. Ok k))

abbrev pub no_row : Row
no_row = record { name = []; job = record { precondition = nothing; effect = nothing } }

-- the job of number k, from 0; past the last, one of empty states
abbrev pub job_at : Table → ℕ → Job
job_at t k = (slice_index_or t.jobs k no_row).job
