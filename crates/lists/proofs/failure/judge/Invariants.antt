use Rattle.std.proofs.Common.{◌≡◌, ◌+◌, drop}
use Rattle.filled.specs.Items.{items_of}
use Rattle.facts.specs.Models.{row}
use Rattle.lists.specs.Lists.{jobs_of}
use Rattle.lists.specs.Failures.{judged}
use Rattle.lists.specs.Models.{list_of, verdict_on}
use Rattle.lists.proofs.failure.judge.Given as goal

abbrev pub invariant-loop-before : goal.invariant-loop-before
invariant-loop-before l =
    judged (l.before + 1) (row l.state) (jobs_of (drop l.before (items_of l.list.jobs))) (row l.list.goal) ≡ verdict_on (list_of l.list)
