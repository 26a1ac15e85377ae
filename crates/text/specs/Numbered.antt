-- The lines of a text with their numbers.
use Rattle.std.specs.Prelude.{◌≡◌, ℕ, ◌+◌, ◌<◌, List, [], ◌∷◌, length, Some, None, Ok, Err, Option, Result}
use Rattle.text.specs.declared.fault.TextFault.{TextFault}
use Rattle.text.specs.declared.line.Line.{Line}
use Rattle.text.specs.Looks.{looked}
use Rattle.text.specs.Lines.{lines}

-- what of a text is still to be read, and the number of its first line
pub record Left : Type 0 where
  pub rest : List ℕ
  pub number : ℕ

-- all lines of the text s, the first of which is line 1; or the fault of the whole
abbrev pub Numbers : List ℕ → Result Left TextFault → Type 0
Numbers s (Ok n) = (looked s ≡ Ok tt) × (n.rest ≡ s) × (n.number ≡ 1)
Numbers s (Err e) = looked s ≡ Err e

-- the next line with its number, and what is then left
abbrev pub NextNumbered : Left → Option Line → Left → Type 0
NextNumbered s None t = (s.rest ≡ []) × (t.rest ≡ []) × (t.number ≡ s.number)
NextNumbered s (Some l) t =
    (lines s.rest ≡ l.text.now ∷ lines t.rest) × (length t.rest < length s.rest) × (l.number ≡ s.number) × (t.number ≡ s.number + 1)
