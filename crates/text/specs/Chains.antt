-- Checks in a row: the first that fails gives the fault.
use Rattle.std.specs.Prelude.{◌≡◌, Bool, true, false, Some, None, Ok, Err, Option, Result}

-- go on from a good answer
abbrev pub then : {X Y E : Type 0} → Result X E → (X → Result Y E) → Result Y E
then (Ok x) f = f x
then (Err e) f = Err e

-- the same, where the fault of a lower place is carried in that of an upper one
abbrev pub then_in : {X Y E F : Type 0} → (E → F) → Result X E → (X → Result Y F) → Result Y F
then_in wrap (Ok x) f = f x
then_in wrap (Err e) f = Err (wrap e)

-- go on unless the test shows a fault
abbrev pub unless : {Y E : Type 0} → Bool → E → (Unit {0} → Result Y E) → Result Y E
unless true e f = Err e
unless false e f = f tt

-- go on with what is there
abbrev pub or_else : {X Y E : Type 0} → Option X → E → (X → Result Y E) → Result Y E
or_else None e f = Err e
or_else (Some x) e f = f x

-- at Ok the value is that of the definition; at Err the fault is
abbrev pub Kept : {X E : Type 0} → Result (Unit {0}) E → Result X E → X → Type 0
Kept (Ok u) o x = o ≡ Ok x
Kept (Err e) o x = o ≡ Err e
