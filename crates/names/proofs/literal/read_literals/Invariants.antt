use Rattle.std.proofs.Common.{◌≡◌, map}
use Rattle.facts.specs.States.{nothing}
use Rattle.text.specs.Lines.{parts}
use Rattle.text.proofs.Cuts.{still, left_of}
use Rattle.names.specs.Literals.{literals}
use Rattle.names.proofs.literal.read_literals.Given as goal

abbrev pub invariant-loop-rest : goal.invariant-loop-rest
invariant-loop-rest g l = literals (map g.R.Named.title l.facts) l.at (still 32 l.rest) l.state.marks ≡ literals (map g.R.Named.title l.facts) l.at (parts 32 l.field) nothing

abbrev pub decreases-loop-rest : goal.decreases-loop-rest
decreases-loop-rest g l = left_of l.rest
