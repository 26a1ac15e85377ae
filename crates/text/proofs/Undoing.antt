-- What a row of checks that passed says of each.
use Rattle.std.proofs.Common.{◌≡◌, Bool, true, false, Ok, Err, Result, refl}
use Rattle.text.specs.Chains.{then, then_in, unless}

pub record Both {X Y E F : Type 0} (r : Result X E) (f : X → Result Y F) (y : Y) : Type 0 where
  pub value : X
  pub first : r ≡ Ok value
  pub second : f value ≡ Ok y

pub then_ok : {X Y E : Type 0} (r : Result X E) (f : X → Result Y E) (y : Y) → then r f ≡ Ok y → Both r f y
then_ok (Ok x) f y h = record { value = x; first = refl; second = h }
then_ok (Err e) f y h = absurd (cc)

pub then_in_ok : {X Y E F : Type 0} (wrap : E → F) (r : Result X E) (f : X → Result Y F) (y : Y) → then_in wrap r f ≡ Ok y → Both r f y
then_in_ok wrap (Ok x) f y h = record { value = x; first = refl; second = h }
then_in_ok wrap (Err e) f y h = absurd (cc)

pub record Passes {Y E : Type 0} (b : Bool) (f : Unit {0} → Result Y E) (y : Y) : Type 0 where
  pub test : b ≡ false
  pub second : f tt ≡ Ok y

pub unless_ok : {Y E : Type 0} (b : Bool) (e : E) (f : Unit {0} → Result Y E) (y : Y) → unless b e f ≡ Ok y → Passes b f y
unless_ok true e f y h = absurd (cc)
unless_ok false e f y h = record { test = refl; second = h }

pub same_ok : {X E : Type 0} (x y : X) → ◌≡◌ {A = Result X E} (Ok x) (Ok y) → x ≡ y
same_ok x y k = cc
