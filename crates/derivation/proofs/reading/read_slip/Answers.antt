use Rattle.std.proofs.Common.{sym, ap, ◌∙◌}
use Rattle.facts.specs.States.{nothing}
use Rattle.facts.specs.Models.{mapped_ok}
use Rattle.facts.proofs.Tests.{same_decides}
use Rattle.table.specs.Models.{table_of}
use Rattle.verdict.proofs.Places.{nothing_places}
use Rattle.derivation.specs.Models.{bar_of, barred}
use Rattle.verdict.specs.Drafts.{draft_of}
use Rattle.derivation.proofs.Steps.{none_barred}
use Rattle.derivation.proofs.reading.read_slip.Goals as goal

pub returns : goal.returns
returns c =
    let work = c.args.work.now in
    let t = table_of c.args.table.now in
    let clear = (same_decides (barred work) nothing (work.bar.facts.size ∙ sym nothing_places)).0 work.clear in
    record { value = none_barred t c.args.slip.now (barred work) (mapped_ok (draft_of t) c.read_under.result) clear c.read_under.ensures.value; bar = ap bar_of c.read_under.ensures.bar }
