use Rattle.std.proofs.Common.{ap, ◌∙◌}
use Rattle.filled.specs.Items.{items_of}
use Rattle.table.specs.Rows.{job_titles}
use Rattle.table.proofs.Storing.{names_same}
use Rattle.table.proofs.table.Table.jobs.Goals as goal

pub returns-clause-names : goal.returns-clause-names
returns-clause-names c = ap job_titles c.as_slice.ensures.value ∙ names_same (items_of c.args.self.now.jobs)
