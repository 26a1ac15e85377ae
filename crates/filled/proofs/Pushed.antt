-- What a push gives where there is room.
use Rattle.std.proofs.Common.{◌≡◌, ℕ, ◌<◌, List, [], ◌∷◌, ◌++◌, length, Ok, Err, Result, arith}
use Rattle.filled.specs.declared.Full.{Full}
use Rattle.filled.specs.Items.{Pushes}

pub pushed : {T : Type 0} (n : ℕ) (xs : List T) (x : T) (r : Result (Unit {0}) Full) (ys : List T) → Pushes n xs x r ys → length xs < n → ys ≡ xs ++ x ∷ []
pushed n xs x (Ok u) ys p room = p.1
pushed n xs x (Err e) ys p room = absurd (omega (arith, p.0))
