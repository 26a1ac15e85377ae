-- Names byte by byte, and the code's searches in the words of the definitions.
use Rattle.std.proofs.Common.{◌≡◌, ℕ, suc, ◌+◌, Bool, not, true, false, cond, ltb, List, [], ◌∷◌, map, length, ◌&&◌, Some, None, Decides, refl, ap, arith, rules}
use Rattle.std.specs.Str.{bytes_eq}
use Rattle.std.specs.List.{list_all, position, position_or_len}
use Rattle.std.proofs.lemmas.Bool.Decides.{nat_tests, same_from_decides}
use Rattle.std.proofs.lemmas.Slice.Eq.{compares_Decides, bytes_eq-Decides}
use Rattle.text.specs.Lists.{each}
use Rattle.names.specs.Names.{same_name, found_from, found_at}

pub all_each : {X : Type 0} (p : X → Bool) (xs : List X) → list_all p xs ≡ each p xs
all_each p [] = refl
all_each p (x ∷ xs) = ap (λ r. p x && r) (all_each p xs)

-- two names are the same exactly when they have the same bytes
pub same_decides : (xs ys : List ℕ) → Decides (same_name xs ys) (xs ≡ ys)
same_decides xs ys = compares_Decides same_name (search rules) xs ys

pub same_true : (xs ys : List ℕ) → same_name xs ys ≡ true → xs ≡ ys
same_true xs ys h = (same_decides xs ys).0 h

pub true_same : (xs : List ℕ) → same_name xs xs ≡ true
true_same xs = (same_decides xs xs).1 refl

-- `==` on slices compares as names are compared
pub slices_same : (xs ys : List ℕ) → bytes_eq xs ys ≡ same_name xs ys
slices_same xs ys = same_from_decides (bytes_eq xs ys) (same_name xs ys) (bytes_eq-Decides xs ys) (same_decides xs ys)

-- the library's search, from which a list of names is counted as from j; m is the place that it finds
found_by_position : {X : Type 0} (title : X → List ℕ) (n : List ℕ) (j : ℕ) (xs : List X) (m : ℕ) → let p = position_or_len (λ x. bytes_eq (title x) n) xs in m ≡ j + p → cond (ltb p (length xs)) (Some m) None ≡ found_from j n (map title xs)
found_by_position title n j [] m e = refl
found_by_position title n j (x ∷ xs) m e = go (bytes_eq (title x) n) (slices_same (title x) n) e (found_by_position title n (j + 1) xs m)
  where
    p : ℕ
    p = position_or_len (λ x. bytes_eq (title x) n) xs

    go : (t : Bool) → t ≡ same_name (title x) n → m ≡ j + cond (not t) (1 + p) 0 → (m ≡ j + 1 + p → cond (ltb p (length xs)) (Some m) None ≡ found_from (j + 1) n (map title xs)) → cond (ltb (cond (not t) (1 + p) 0) (suc (length xs))) (Some m) None ≡ cond (same_name (title x) n) (Some j) (found_from (j + 1) n (map title xs))
    go true s e h = rw (← s) (grind (arith, nat_tests))
    go false s e h = let k = h (omega arith) in rw (← s) (grind (arith, nat_tests))

pub position_found : {X : Type 0} (title : X → List ℕ) (n : List ℕ) (xs : List X) → position (λ x. bytes_eq (title x) n) xs ≡ found_at n (map title xs)
position_found title n xs = found_by_position title n 0 xs _ (omega arith)
