-- The look over a whole text.
use Rattle.std.specs.Prelude.{◌≡◌, ℕ, suc, ◌+◌, ◌<◌, ◌≤◌, Bool, true, false, cond, ◌&&◌, ◌||◌, List, [], ◌∷◌, ◌++◌, length, Ok, Err, Result, ◌==◌, ◌≢◌, nat_le, nat_lt}
use Rattle.text.specs.declared.fault.TextFault.{TextFault}
use Rattle.text.specs.declared.fault.TextFault.TheVariants.{TooLong, BadByte, Unended, BadName, NoSign, UnknownName, FactTwice}
use Rattle.text.specs.declared.fault.Place.{Place}
use Rattle.text.specs.Chains.{then, unless}
use Rattle.text.specs.Lines.{lines}
use Rattle.text.specs.Lists.{each}
use Rattle.text.specs.Spelling.{closed}

pub data Kind : Type 0 where
  newline : Kind
  tab : Kind
  plain : Kind
  bad : Kind

-- a byte of a text: 0A, 09, 20 to 7E; or one that no text has
abbrev pub kind_of : ℕ → Kind
kind_of b = cond (b == 10) newline (cond (b == 9) tab (cond (nat_le 32 b && nat_le b 126) plain bad))

-- where the byte after one of this kind stands, if that one stands here
abbrev pub placed : Kind → Place → Result Place TextFault
placed newline at = Ok (record { line = at.line + 1; field = 1 })
placed tab at = Ok (record { line = at.line; field = at.field + 1 })
placed plain at = Ok at
placed bad at = Err (BadByte at)

-- where a byte stands, and whether it begins a line
pub record Cursor : Type 0 where
  pub line : ℕ
  pub field : ℕ
  pub fresh : Bool

abbrev pub by_kind : Kind → Cursor → Result Cursor TextFault
by_kind newline c = Ok (record { line = c.line + 1; field = 1; fresh = true })
by_kind tab c = Ok (record { line = c.line; field = c.field + 1; fresh = false })
by_kind plain c = Ok (record { line = c.line; field = c.field; fresh = false })
by_kind bad c = Err (BadByte (record { line = c.line; field = c.field }))

-- where the byte after b stands
abbrev pub stepped : Cursor → ℕ → Result Cursor TextFault
stepped c b = by_kind (kind_of b) c

-- where the end stands, or the first byte that no text has
abbrev pub passed : Cursor → List ℕ → Result Cursor TextFault
passed c [] = Ok c
passed c (b ∷ s) = then (stepped c b) (λ d. passed d s)

abbrev pub ended : Cursor → Result (Unit {0}) TextFault
ended c = cond c.fresh (Ok tt) (Err (Unended c.line))

abbrev pub start : Cursor
start = record { line = 1; field = 1; fresh = true }

-- too long, else the first bad byte, else a last line that is not ended
abbrev pub looked : List ℕ → Result (Unit {0}) TextFault
looked s = unless (nat_lt 1048576 (length s)) TooLong (λ _. then (passed start s) ended)

-- a byte that a text may have
abbrev pub text_byte : ℕ → Bool
text_byte b = b == 10 || (b == 9 || (nat_le 32 b && nat_le b 126))

-- a text: at most 1,048,576 bytes, each one that a text may have, and every line ended
pub record Proper (s : List ℕ) : Type 0 where
  pub short : length s ≤ 1048576
  pub bytes : each text_byte s ≡ true
  pub lined : closed (lines s) ≡ s

-- how often 0A stands in s
abbrev pub newlines : List ℕ → ℕ
newlines [] = 0
newlines (b ∷ s) = cond (b == 10) (suc (newlines s)) (newlines s)

-- the field in which the byte after s stands, where s begins in field n
abbrev pub field_after : ℕ → List ℕ → ℕ
field_after n [] = n
field_after n (b ∷ s) = cond (b == 10) (field_after 1 s) (cond (b == 9) (field_after (n + 1) s) (field_after n s))

-- the first byte of s that no text has stands on line k + the lines before it, in the field that follows field n
pub record FirstBad (k n : ℕ) (s : List ℕ) (at : Place) : Type 0 where
  pub before : List ℕ
  pub byte : ℕ
  pub after : List ℕ
  pub split : s ≡ before ++ byte ∷ after
  pub good : each text_byte before ≡ true
  pub bad : text_byte byte ≡ false
  pub line : at.line ≡ k + newlines before
  pub field : at.field ≡ field_after n before

-- what the look over a text answers
abbrev pub Looks : List ℕ → Result (Unit {0}) TextFault → Type 0
Looks s (Ok u) = Proper s
Looks s (Err TooLong) = 1048576 < length s
Looks s (Err (BadByte at)) = (length s ≤ 1048576) × FirstBad 1 1 s at
Looks s (Err (Unended line)) = (length s ≤ 1048576) × (each text_byte s ≡ true) × (closed (lines s) ≢ s) × (line ≡ 1 + newlines s)
Looks s (Err (BadName at)) = ⊥
Looks s (Err (NoSign at)) = ⊥
Looks s (Err (UnknownName at)) = ⊥
Looks s (Err (FactTwice at)) = ⊥
