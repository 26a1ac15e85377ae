-- How texts are spelt: parts joined, and lines ended.
use Rattle.std.specs.Prelude.{ℕ, List, [], ◌∷◌, ◌++◌}

-- parts joined by k
abbrev pub join : ℕ → List (List ℕ) → List ℕ
join k [] = []
join k (p ∷ []) = p
join k (p ∷ q ∷ ps) = p ++ k ∷ join k (q ∷ ps)

-- lines, each ended by 0A
abbrev pub closed : List (List ℕ) → List ℕ
closed [] = []
closed (l ∷ ls) = l ++ 10 ∷ closed ls
