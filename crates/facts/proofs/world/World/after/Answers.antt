use Rattle.std.proofs.Common.{◌≡◌, ℕ, ◌<◌, Bool, false, get_or, take, ap, ◌∙◌, arith, rules}
use Rattle.std.proofs.lemmas.List.{get_or_past, length-take-le}
use Rattle.filled.specs.Items.{items_of}
use Rattle.facts.specs.States.{mark}
use Rattle.facts.specs.Worlds.{set_one}
use Rattle.facts.specs.Models.{size_of, seen}
use Rattle.facts.proofs.Made.{made_at}
use Rattle.facts.proofs.Meanings.{carried_is}
use Rattle.facts.proofs.Tests.{within_decides}
use Rattle.facts.proofs.world.World.after.Goals as goal

pub returns : goal.returns
returns c =
    let w = c.args.self.now in
    let s = c.args.state.now.marks in
    let made = λ (i : ℕ) (l : i < 256). made_at _ (λ k (x : Bool). x ≡ set_one (mark s k) (seen w k)) _ (λ k y q h. search rules) _ _ c.from_fn-facts.ensures.items i false l in
    let few = c.len.ensures.few in
    let count = c.len.ensures.value in
    record {
      size = c.in-Ok.ensures.cases.1 ∙ length-take-le c.len.result c.from_fn-facts.result (omega (arith, c.from_fn-facts.ensures.items.long)) ∙ count;
      facts = c.in-Ok.ensures.cases.2 ∙ ap (λ n i. get_or (take n c.from_fn-facts.result) i false) count ∙ carried_is s (seen w) (size_of w) c.from_fn-facts.result ((within_decides (size_of w) s).0 c.requires) (λ i l. get_or_past (items_of w.facts) i false l) (omega (arith, c.from_fn-facts.ensures.items.long)) (λ k l. made k (omega arith));
    }
