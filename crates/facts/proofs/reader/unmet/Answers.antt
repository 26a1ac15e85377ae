use Rattle.std.proofs.Common.{ℕ, ◌<◌, ◌≡◌, sym, subst, rules}
use Rattle.facts.specs.declared.mark.Mark.TheVariants.{Unnamed}
use Rattle.facts.specs.States.{mark}
use Rattle.facts.specs.Worlds.{unmet_one}
use Rattle.facts.specs.Words.{Unmet}
use Rattle.facts.proofs.Made.{made_at}
use Rattle.facts.proofs.Meanings.{unmet_means}
use Rattle.facts.proofs.Scans.{picked_is}
use Rattle.facts.proofs.reader.unmet.Goals as goal

pub returns : goal.returns
returns g c =
    let w = g.R.FactReader.fact c.args.reader.now in
    let s = c.args.state.now in
    let made = λ (i : ℕ) (l : i < 256). made_at _ (λ k m. m ≡ unmet_one (mark s.marks k) (w k)) _ (λ k y q h. search rules) _ _ c.from_fn.ensures.items i Unnamed l in
    let is = picked_is w s.marks c.from_fn.result s.size c.from_fn.ensures.items.long made in
    record { value = is; means = subst (Unmet w s.marks) (sym is) (unmet_means w s.marks) }
