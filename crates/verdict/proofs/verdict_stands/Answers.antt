use Rattle.verdict.proofs.Accepting.{accepts_exactly}
use Rattle.verdict.proofs.Good.{accepts_good, writes_accepted}
use Rattle.verdict.proofs.verdict_stands.Goals as goal

pub returns : goal.returns
returns c = record { grammar = accepts_exactly; good = accepts_good; written = writes_accepted }
