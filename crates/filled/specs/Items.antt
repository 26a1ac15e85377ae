-- What stands in an array that is filled from the front.
use Rattle.std.specs.Prelude.{◌≡◌, ℕ, ◌<◌, ◌≤◌, List, [], ◌∷◌, ◌++◌, length, take, Ok, Err, Result}
use Rattle.filled.specs.declared.Filled as code
use Rattle.filled.specs.declared.Full.{Full}

-- the items: what stands in the places that are counted, from the front
abbrev pub items_of : {T : Type 0} {n : ℕ} → code.Filled T n → List T
items_of f = take f.len f.places

-- one item more at the end of the list xs; refused, with nothing changed, exactly where it has n already
abbrev pub Pushes : {T : Type 0} → ℕ → List T → T → Result (Unit {0}) Full → List T → Type 0
Pushes n xs x (Ok u) ys = (length xs < n) × (ys ≡ xs ++ x ∷ [])
Pushes n xs x (Err e) ys = (n ≤ length xs) × (ys ≡ xs)

-- an array filled with the list xs; refused exactly where it has more than n items
abbrev pub Copies : {T : Type 0} {m : ℕ} → ℕ → List T → Result (code.Filled T m) Full → Type 0
Copies n xs (Ok f) = (length xs ≤ n) × (items_of f ≡ xs)
Copies n xs (Err e) = n < length xs
