-- Lines, and what is parted in them.
use Rattle.std.specs.Prelude.{◌≡◌, ℕ, suc, ◌<◌, Bool, true, false, cond, List, [], ◌∷◌, length, Some, None, Option, ◌==◌}
use Rattle.std.specs.Borrow.{Bor}

-- how many bytes stand before the first k
abbrev pub before : ℕ → List ℕ → ℕ
before k [] = 0
before k (b ∷ s) = cond (b == k) 0 (suc (before k s))

-- a byte in front of the first part
abbrev pub onto : ℕ → List (List ℕ) → List (List ℕ)
onto b [] = (b ∷ []) ∷ []
onto b (l ∷ ls) = (b ∷ l) ∷ ls

abbrev pub cutting : Bool → ℕ → List (List ℕ) → List (List ℕ)
cutting true b ls = [] ∷ ls
cutting false b ls = onto b ls

-- the lines of a text: 0A ends each; what follows the last 0A, if anything, is one line more
abbrev pub lines : List ℕ → List (List ℕ)
lines [] = []
lines (b ∷ s) = cutting (b == 10) b (lines s)

-- parted at each k
abbrev pub parts : ℕ → List ℕ → List (List ℕ)
parts k [] = [] ∷ []
parts k (b ∷ s) = cutting (b == k) b (parts k s)

-- the fields of a line: 09 parts them
abbrev pub fields : List ℕ → List (List ℕ)
fields l = parts 9 l

-- the first part, and what follows it
abbrev pub Cut : ℕ → List ℕ → List ℕ → Option (Bor (List ℕ)) → Type 0
Cut k s part None = parts k s ≡ part ∷ []
Cut k s part (Some t) = (parts k s ≡ part ∷ parts k t.now) × (length t.now < length s)

-- the next line of s, and what of the text is then left
abbrev pub NextLine : List ℕ → Option (Bor (List ℕ)) → List ℕ → Type 0
NextLine s None t = (s ≡ []) × (t ≡ [])
NextLine s (Some l) t = (lines s ≡ l.now ∷ lines t) × (length t < length s)
