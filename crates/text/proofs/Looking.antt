-- The look over a text, byte by byte.
use Rattle.std.proofs.Common.{◌≡◌, ℕ, zero, suc, ◌≤◌, Bool, true, eqb, List, length, get_or, ap}
use Rattle.std.proofs.lemmas.Bool.{le-ltb}
use Rattle.text.specs.declared.fault.Place.{Place}
use Rattle.text.specs.declared.fault.TextFault.TheVariants.{TooLong}
use Rattle.text.specs.Chains.{then, unless}
use Rattle.text.specs.Looks.{Cursor, passed, start, ended, looked}

pub looked_at : (s : List ℕ) → length s ≤ 1048576 → looked s ≡ then (passed start s) ended
looked_at s h = ap (λ t. unless t TooLong (λ _. then (passed start s) ended)) (le-ltb 1048576 (length s) h)

-- whether byte i of s begins a line
abbrev pub fresh_at : List ℕ → ℕ → Bool
fresh_at s zero = true
fresh_at s (suc i) = eqb (get_or s i 0) 10

-- the cursor of byte i of s
abbrev pub cursor_at : Place → List ℕ → ℕ → Cursor
cursor_at at s i = record { line = at.line; field = at.field; fresh = fresh_at s i }
