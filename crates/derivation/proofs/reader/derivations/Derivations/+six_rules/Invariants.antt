use Rattle.std.proofs.Common.{◌+◌, ◌*◌}
use Rattle.derivation.proofs.reader.derivations.Derivations.+six_rules.Given as goal

-- the remaining depth falls; at one depth a line is read before its rule is looked at, and that before its premises
abbrev pub decreases-by_rule : goal.decreases-by_rule
decreases-by_rule l = 4 * l.self.left + 3

abbrev pub decreases-compose : goal.decreases-compose
decreases-compose l = 4 * l.self.left + 2

abbrev pub decreases-frame : goal.decreases-frame
decreases-frame l = 4 * l.self.left + 2

abbrev pub decreases-premises : goal.decreases-premises
decreases-premises l = 4 * l.self.left + 1

abbrev pub decreases-read : goal.decreases-read
decreases-read l = 4 * l.self.left

abbrev pub decreases-shrink : goal.decreases-shrink
decreases-shrink l = 4 * l.self.left + 2

abbrev pub decreases-weaken : goal.decreases-weaken
decreases-weaken l = 4 * l.self.left + 2
