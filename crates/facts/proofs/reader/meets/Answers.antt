use Rattle.std.proofs.Common.{MatchBool, rules}
use Rattle.std.proofs.lemmas.Bool.Decides.{same_from_decides}
use Rattle.facts.specs.Worlds.{meets}
use Rattle.facts.specs.Scans.{AllMet}
use Rattle.facts.proofs.Tests.{meets_decides}
use Rattle.facts.proofs.Scans.{meets_scan}
use Rattle.facts.proofs.reader.meets.Goals as goal

pub returns : goal.returns
returns g c =
    let w = g.R.FactReader.fact c.args.reader.now in
    let s = c.args.state.now in
    let facts : MatchBool c.all.result (AllMet w s.marks) (AllMet w s.marks → ⊥) = search rules in
    let d = meets_scan w s.marks c.all.result s.size facts in
    record { value = same_from_decides _ (meets w s.marks) d (meets_decides w s.marks); means = d }
