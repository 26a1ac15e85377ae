use Rattle.std.proofs.Common.{ℕ, ◌<◌, rules}
use Rattle.facts.specs.declared.mark.Mark.TheVariants.{Unnamed}
use Rattle.facts.specs.States.{mark}
use Rattle.facts.proofs.Made.{made_at}
use Rattle.facts.proofs.Scans.{blended_is}
use Rattle.facts.proofs.state.State.blended.Goals as goal

pub returns : goal.returns
returns g c =
    let P = c.args.self.now in
    let Q = c.args.other.now in
    let made = λ (i : ℕ) (l : i < 256). made_at _ (λ k. goal.F-post g c.args.each (mark P.marks k) (mark Q.marks k)) _ (λ k y q h. search rules) _ _ c.from_fn.ensures.items i Unnamed l in
    record { value = λ f h. blended_is f P.marks Q.marks c.from_fn.result P.size Q.size c.from_fn.ensures.items.long (λ i l. h _ _ _ (made i l)) }
