-- Lists by their elements, and a test of each.
use Rattle.std.proofs.Common.{◌≡◌, ℕ, zero, suc, ◌<◌, Bool, true, List, [], ◌∷◌, ◌++◌, length, get_or, refl, arith}
use Rattle.std.specs.List.{AllByRecursion}
use Rattle.std.proofs.lemmas.Bool.{and_parts, and_from}
use Rattle.text.specs.Lists.{each}

pub two : (fs : List (List ℕ)) → length fs ≡ 2 → fs ≡ get_or fs 0 [] ∷ get_or fs 1 [] ∷ []
two [] h = absurd (omega arith)
two (a ∷ []) h = absurd (omega arith)
two (a ∷ b ∷ []) h = refl
two (a ∷ b ∷ c ∷ fs) h = absurd (omega arith)

pub four : (fs : List (List ℕ)) → length fs ≡ 4 → fs ≡ get_or fs 0 [] ∷ get_or fs 1 [] ∷ get_or fs 2 [] ∷ get_or fs 3 [] ∷ []
four [] h = absurd (omega arith)
four (a ∷ []) h = absurd (omega arith)
four (a ∷ b ∷ []) h = absurd (omega arith)
four (a ∷ b ∷ c ∷ []) h = absurd (omega arith)
four (a ∷ b ∷ c ∷ d ∷ []) h = refl
four (a ∷ b ∷ c ∷ d ∷ e ∷ fs) h = absurd (omega arith)

pub each_all : {X : Type 0} (p : X → Bool) (P : X → Type 0) → ((b : X) → p b ≡ true → P b) → (s : List X) → each p s ≡ true → AllByRecursion P s
each_all p P f [] h = tt
each_all p P f (b ∷ s) h = let q = and_parts (p b) (each p s) h in (f b q.0, each_all p P f s q.1)

pub each_some : {X : Type 0} (p q : X → Bool) → ((b : X) → p b ≡ true → q b ≡ true) → (s : List X) → each p s ≡ true → each q s ≡ true
each_some p q f [] h = refl
each_some p q f (b ∷ s) h = let k = and_parts (p b) (each p s) h in and_from (q b) (each q s) (f b k.0) (each_some p q f s k.1)

pub each_at : {X : Type 0} (p : X → Bool) (xs : List X) (d : X) → each p xs ≡ true → (i : ℕ) → i < length xs → p (get_or xs i d) ≡ true
each_at p [] d h i l = absurd (omega arith)
each_at p (x ∷ xs) d h zero l = (and_parts (p x) (each p xs) h).0
each_at p (x ∷ xs) d h (suc i) l = each_at p xs d (and_parts (p x) (each p xs) h).1 i (omega arith)

pub each_append : {X : Type 0} (p : X → Bool) (s t : List X) → each p s ≡ true → each p t ≡ true → each p (s ++ t) ≡ true
each_append p [] t h k = k
each_append p (b ∷ s) t h k = let q = and_parts (p b) (each p s) h in and_from (p b) (each p (s ++ t)) q.0 (each_append p s t q.1 k)
