use Rattle.std.proofs.Common.{◌≡◌, ℕ, ◌<◌, ◌≤◌, Bool, false, ◌&&◌, eqb, ap, ◌∙◌, arith, rules}
use Rattle.std.proofs.lemmas.Bool.{ne_eqb}
use Rattle.facts.specs.Models.{row}
use Rattle.facts.proofs.Made.{made_at}
use Rattle.facts.proofs.Meanings.{carried_is}
use Rattle.facts.proofs.Tests.{within_decides}
use Rattle.lists.specs.Failures.{example}
use Rattle.lists.specs.Models.{list_of}
use Rattle.lists.proofs.Places.{fits_parts}
use Rattle.lists.proofs.failure.shown.Goals as goal

pub returns-clause-facts : goal.returns-clause-facts
returns-clause-facts c =
    let l = c.args.list.now in
    let O = row l.opening in
    let e = c.args.lack.now in
    let small = (within_decides l.count O).0 (fits_parts l.count O (list_of l).goal (list_of l).jobs l.inside).opening in
    let made = λ (i : ℕ) (h : i < 256). made_at _ (λ k (y : Bool). y ≡ example O e.fact e.holds k) _ (λ k y q h. search rules) _ _ c.from_fn-facts.ensures.items i false h in
    let alone = λ (k : ℕ) (h : l.count ≤ k). ap (λ t. t && e.holds) (ne_eqb k e.fact (λ z. omega (arith, c.requires))) in
    c.in-Ok.ensures.cases.2 ∙ carried_is O (λ k. eqb k e.fact && e.holds) l.count c.from_fn-facts.result small alone (omega (arith, l.few, c.from_fn-facts.ensures.items.long)) (λ k h. made k (omega (arith, l.few)))
