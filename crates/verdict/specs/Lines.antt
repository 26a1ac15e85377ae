-- What a line of a slip is, and how many fields it has.
use Rattle.std.specs.Prelude.{ℕ, not, Some, None, Ok, Err, Option, Result, ◌==◌}
use Rattle.text.specs.declared.tag.Tag.{Tag}
use Rattle.text.specs.declared.tag.Tag.TheVariants.{N, D, B, G, E, W, S, C, F, A, H}
use Rattle.text.specs.Chains.{then, unless}
use Rattle.verdict.specs.declared.fault.SlipFault.{SlipFault}
use Rattle.verdict.specs.declared.fault.SlipFault.TheVariants.{WrongTag, WrongFields, OutOfOrder}
use Rattle.verdict.specs.declared.rule.Rule as rules
use Rattle.verdict.specs.declared.rule.Rule.TheVariants.{Halt, Apply, Compose, Weaken, Shrink, Frame}
use Rattle.verdict.specs.declared.rule.Header as headers
use Rattle.verdict.specs.declared.rule.Header.TheVariants.{Opening, Goal}
use Rattle.verdict.specs.declared.rule.SlipTag.{SlipTag}
use Rattle.verdict.specs.declared.rule.SlipTag.TheVariants.{Header, Rule}

-- the tags of a slip; any other gets 4
abbrev pub slip_tag : Option Tag → ℕ → Result SlipTag SlipFault
slip_tag (Some B) at = Ok (Header Opening)
slip_tag (Some G) at = Ok (Header Goal)
slip_tag (Some H) at = Ok (Rule Halt)
slip_tag (Some A) at = Ok (Rule Apply)
slip_tag (Some C) at = Ok (Rule Compose)
slip_tag (Some W) at = Ok (Rule Weaken)
slip_tag (Some S) at = Ok (Rule Shrink)
slip_tag (Some F) at = Ok (Rule Frame)
slip_tag (Some N) at = Err (WrongTag at)
slip_tag (Some D) at = Err (WrongTag at)
slip_tag (Some E) at = Err (WrongTag at)
slip_tag None at = Err (WrongTag at)

-- C and H have only the tag; the others have one field more
abbrev pub width : rules.Rule → ℕ
width Halt = 1
width Apply = 2
width Compose = 1
width Weaken = 2
width Shrink = 2
width Frame = 2

-- a line of as many fields as it should have
abbrev pub sized : {X : Type 0} → X → ℕ → ℕ → ℕ → Result X SlipFault
sized x wanted fields at = unless (not (fields == wanted)) (WrongFields at) (λ _. Ok x)

-- B where B is wanted, and G where G is
abbrev pub as_header : headers.Header → SlipTag → ℕ → ℕ → Result (Unit {0}) SlipFault
as_header Opening (Header Opening) fields at = sized tt 2 fields at
as_header Opening (Header Goal) fields at = Err (OutOfOrder at)
as_header Goal (Header Opening) fields at = Err (OutOfOrder at)
as_header Goal (Header Goal) fields at = sized tt 2 fields at
as_header wanted (Rule r) fields at = Err (OutOfOrder at)

abbrev pub as_rule : SlipTag → ℕ → ℕ → Result rules.Rule SlipFault
as_rule (Header h) fields at = Err (OutOfOrder at)
as_rule (Rule r) fields at = sized r (width r) fields at

-- the line that has to come here: 4, then 12, then 5
abbrev pub header_tag : headers.Header → Option Tag → ℕ → ℕ → Result (Unit {0}) SlipFault
header_tag wanted tag fields at = then (slip_tag tag at) (λ x. as_header wanted x fields at)

abbrev pub rule_tag : Option Tag → ℕ → ℕ → Result rules.Rule SlipFault
rule_tag tag fields at = then (slip_tag tag at) (λ x. as_rule x fields at)
