-- Where the code's reader stands, and what a call on it reads.
use Rattle.std.specs.Prelude.{◌≡◌, ℕ, List, [], ◌∷◌, Some, None, Ok, Err, Option, Result}
use Rattle.filled.specs.Items.{items_of}
use Rattle.facts.specs.Models.{row}
use Rattle.text.specs.declared.fault.TextFault.{TextFault}
use Rattle.text.specs.declared.line.Line.{Line}
use Rattle.text.specs.Lines.{lines}
use Rattle.text.specs.Looks.{looked}
use Rattle.table.specs.Models.{table_of}
use Rattle.verdict.specs.declared.fault.SlipFault.{SlipFault}
use Rattle.verdict.specs.Verdicts.{Ends, Cursor, Read, Reader, start, past, derivation}
use Rattle.derivation.specs.declared.ends.Ends as code_ends
use Rattle.derivation.specs.declared.reader.Reader as code_reader
use Rattle.derivation.specs.declared.reader.derivations.Derivations as code_derivations

abbrev pub ends_of : code_ends.Ends → Ends
ends_of e = record { opening = row e.opening; end = row e.end }

abbrev pub cursor_of : code_reader.Reader → Cursor
cursor_of r = record { line = r.lines.number; rest = lines r.lines.rest; jobs = items_of r.jobs }

-- the reader of the slip s, at its first line; or the fault of the whole
abbrev pub Opened : List ℕ → Result code_reader.Reader TextFault → Type 0
Opened s (Ok r) = (looked s ≡ Ok tt) × (cursor_of r ≡ start s)
Opened s (Err e) = looked s ≡ Err e

-- the next line, if there is one
abbrev pub Took : Cursor → Option Line → Cursor → Type 0
Took c None d = (c.rest ≡ []) × (d ≡ c)
Took c (Some l) d = (c.rest ≡ l.text.now ∷ d.rest) × (l.number ≡ c.line) × (d ≡ past c d.rest)

-- an answer of the code, whose values are in the definitions' words by f, and where the reader then stands
abbrev pub Says : {X Y : Type 0} → (X → Y) → Result X SlipFault → Cursor → Read Y → Type 0
Says f (Ok x) c o = o ≡ Ok (f x, c)
Says f (Err e) c o = o ≡ Err e

abbrev pub two_ends : code_ends.Ends × code_ends.Ends → Ends × Ends
two_ends p = (ends_of p.0, ends_of p.1)

-- the derivations that the code reads: over its table, at most as many lines above each other as are left
abbrev pub derivation_of : code_derivations.Derivations → Reader
derivation_of r = derivation (table_of r.table.now) r.left
