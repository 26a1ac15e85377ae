use Rattle.rules.proofs.Soundness.{sound}
use Rattle.rules.proofs.rules_sound.Goals as goal

pub returns : goal.returns
returns c = record { law = sound }
