use Rattle.rules.proofs.Frames.{traced, end_spared}
use Rattle.rules.proofs.ends_traced.Goals as goal

pub returns : goal.returns
returns c = record { law = traced; spared = end_spared }
