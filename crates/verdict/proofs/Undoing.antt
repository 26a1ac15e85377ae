-- What a reading that went well says of its steps.
use Rattle.std.proofs.Common.{◌≡◌, ℕ, Some, None, Ok, Err, Option, Result, refl, arith}
use Rattle.text.specs.Chains.{or_else}
use Rattle.verdict.specs.declared.fault.SlipFault.{SlipFault}
use Rattle.verdict.specs.Verdicts.{Cursor, Read, then_read}

pub record BothRead {X Y : Type 0} (o : Read X) (f : X → Cursor → Result Y SlipFault) (y : Y) : Type 0 where
  pub value : X
  pub cursor : Cursor
  pub first : o ≡ Ok (value, cursor)
  pub second : f value cursor ≡ Ok y

pub read_ok : {X Y : Type 0} (o : Read X) (f : X → Cursor → Result Y SlipFault) (y : Y) → then_read o f ≡ Ok y → BothRead o f y
read_ok (Ok p) f y h = record { value = p.0; cursor = p.1; first = refl; second = h }
read_ok (Err e) f y h = let z : ◌≡◌ {A = ℕ} 0 1 = cc in absurd (omega arith)

pub record FoundOne {X Y E : Type 0} (o : Option X) (f : X → Result Y E) (y : Y) : Type 0 where
  pub value : X
  pub first : o ≡ Some value
  pub second : f value ≡ Ok y

pub else_ok : {X Y E : Type 0} (o : Option X) (e : E) (f : X → Result Y E) (y : Y) → or_else o e f ≡ Ok y → FoundOne o f y
else_ok (Some x) e f y h = record { value = x; first = refl; second = h }
else_ok None e f y h = let z : ◌≡◌ {A = ℕ} 0 1 = cc in absurd (omega arith)
