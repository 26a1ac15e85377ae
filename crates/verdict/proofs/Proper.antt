-- Every table that was read is a proper one.
use Rattle.std.proofs.Common.{◌≡◌, List, [], ◌∷◌, length, ap, ◌∙◌, arith}
use Rattle.std.proofs.lemmas.List.{length-map}
use Rattle.std.specs.List.{AllByRecursion}
use Rattle.filled.specs.Items.{items_of}
use Rattle.names.specs.Models.{spelling}
use Rattle.table.specs.declared.fact_row.FactRow.{FactRow}
use Rattle.table.specs.declared.job_row.JobRow.{JobRow}
use Rattle.table.specs.declared.table.Table.{Table}
use Rattle.table.specs.Rows.{rows_of, proper_jobs}
use Rattle.table.specs.Models.{table_of}
use Rattle.verdict.specs.Statements.{FullRow, ProperTable}

full : (rs : List JobRow) → AllByRecursion FullRow (rows_of rs)
full [] = tt
full (r ∷ rs) = (record { precondition = r.job.precondition.size; effect = r.job.effect.size }, full rs)

pub proper : (t : Table) → ProperTable (table_of t)
proper t =
    let count : length (table_of t).facts ≡ length (items_of t.facts) = length-map (items_of t.facts) (λ (r : FactRow). spelling r.name) in
    record { few = omega (arith, t.few_facts, count); facts = t.named; jobs = ap (λ n. proper_jobs n (table_of t).jobs) count ∙ t.able; places = full (items_of t.jobs) }
