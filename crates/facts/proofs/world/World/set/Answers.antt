use Rattle.facts.specs.Models.{seen}
use Rattle.facts.proofs.Meanings.{carried_sets}
use Rattle.facts.proofs.world.World.set.Goals as goal

pub returns-clause-means : goal.returns-clause-means
returns-clause-means c = carried_sets c.args.state.now.marks (seen c.args.self.now) (seen c.after.result) c.after.ensures.facts
