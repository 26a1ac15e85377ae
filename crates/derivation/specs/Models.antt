-- What stands in the code's values.
use Rattle.facts.specs.States.{State}
use Rattle.facts.specs.Models.{row}
use Rattle.derivation.specs.declared.bar.Bar.{Bar}
use Rattle.derivation.specs.declared.area.Work.{Work}

-- a bar is the state whose facts it bars
abbrev pub bar_of : Bar → State
bar_of b = row b.facts

-- what a work area bars
abbrev pub barred : Work → State
barred w = bar_of w.bar
