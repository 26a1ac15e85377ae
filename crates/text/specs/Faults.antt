-- The number, line and field of each fault.
use Rattle.std.specs.Prelude.{ℕ}
use Rattle.text.specs.declared.fault.Place.{Place}
use Rattle.text.specs.declared.fault.TextFault.{TextFault}
use Rattle.text.specs.declared.fault.TextFault.TheVariants.{TooLong, BadByte, Unended, BadName, NoSign, UnknownName, FactTwice}

abbrev pub at_place : ℕ → Place → ℕ × ℕ × ℕ
at_place n p = (n, p.line, p.field)

abbrev pub refusal_of : TextFault → ℕ × ℕ × ℕ
refusal_of TooLong = (1, 0, 0)
refusal_of (BadByte p) = at_place 2 p
refusal_of (Unended line) = (3, line, 0)
refusal_of (BadName p) = at_place 6 p
refusal_of (NoSign p) = at_place 7 p
refusal_of (UnknownName p) = at_place 8 p
refusal_of (FactTwice p) = at_place 9 p
