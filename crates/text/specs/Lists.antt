-- A test of each element of a list.
use Rattle.std.specs.Prelude.{Bool, true, ◌&&◌, List, [], ◌∷◌}

abbrev pub each : {X : Type 0} → (X → Bool) → List X → Bool
each p [] = true
each p (x ∷ xs) = p x && each p xs
