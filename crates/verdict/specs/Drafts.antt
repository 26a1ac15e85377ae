-- What stands in the code's drafts.
use Rattle.facts.specs.Models.{row}
use Rattle.table.specs.Tables.{Table}
use Rattle.verdict.specs.Verdicts.{Plan, plan_from}
use Rattle.lists.specs.declared.draft.Draft.{Draft}
use Rattle.filled.specs.Items.{items_of}

-- a draft over a table
abbrev pub draft_of : Table → Draft → Plan
draft_of t d = plan_from t (row d.opening) (row d.goal) (items_of d.numbers)
