use Rattle.rules.proofs.Completeness.{complete, shallow}
use Rattle.rules.proofs.rules_complete.Goals as goal

pub returns : goal.returns
returns c = record { law = complete; bound = shallow }
