use Rattle.std.proofs.Common.{◌∙◌, ap, sym, refl, rules, tests}
use Rattle.std.proofs.lemmas.Iterator.Consumers.{nth_from_yields_List}
use Rattle.std.proofs.lemmas.Iterator.Splits.{YieldsList-from_slice_split}
use Rattle.std.specs.List.{slice_get}
use Rattle.text.specs.Lines.{parts}
use Rattle.text.proofs.Cuts.{shown_or}
use Rattle.text.proofs.Joins.{parts_split}
use Rattle.text.proofs.lines.field.Goals as goal

pub returns : goal.returns
returns c =
    let s = c.args.line.now in
    let e = nth_from_yields_List c.nth.result _ _ c.nth.ensures.ran (YieldsList-from_slice_split _ _ s c.split.ensures.rest c.split.ensures.done c.split.ensures.closure (λ x b q k. search (rules, tests))) in
    record { value = ap (λ x. x.now) c.unwrap_or.ensures ∙ shown_or c.nth.result _ (parts 9 s) c.args.i refl (e ∙ λ j. slice_get (sym (parts_split 9 s) j) (c.from.ensures j)) }
