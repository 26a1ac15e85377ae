use Rattle.std.proofs.Common.{Ok, Err, sym, ap, ◌∙◌}
use Rattle.std.proofs.lemmas.Result.{err_from_is_err_and}
use Rattle.facts.specs.Models.{mapped_ok}
use Rattle.table.specs.Models.{table_of}
use Rattle.verdict.specs.Drafts.{draft_of}
use Rattle.listing.proofs.Steps.{list_read}
use Rattle.listing.proofs.reading.parse.Goals as goal

pub returns-in_err-numbers : goal.returns-in_err-numbers
returns-in_err-numbers c =
    let t = table_of c.args.table.now in
    let p = err_from_is_err_and c.from_residual-in_err-numbers.result c.from_residual-in_err-numbers.ensures.1 in
    let is = list_read t c.args.text.now (Err c.in_err-numbers.field-0.0) c.in_ok-opening.opening c.in_ok-goal.goal c.in_ok-lines.lines c.next_state.new.lines c.next_state-2.new.lines c.in_ok-lines.ensures.value c.in_ok-opening.ensures.reads c.in_ok-goal.ensures.reads c.in_err-numbers.ensures.value in
    record { value = ap (mapped_ok (draft_of t)) (p.1 ∙ ap Err p.2) ∙ sym is }

pub returns : goal.returns
returns c =
    let t = table_of c.args.table.now in
    record { value = sym (list_read t c.args.text.now (Ok c.in_ok-numbers.numbers) c.in_ok-opening.opening c.in_ok-goal.goal c.in_ok-lines.lines c.next_state.new.lines c.next_state-2.new.lines c.in_ok-lines.ensures.value c.in_ok-opening.ensures.reads c.in_ok-goal.ensures.reads c.in_ok-numbers.ensures.value) }
