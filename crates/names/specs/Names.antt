-- Names, and rows found by name.
use Rattle.std.specs.Prelude.{◌≡◌, ℕ, ◌+◌, ◌<◌, Bool, true, false, cond, not, ◌&&◌, ◌||◌, List, [], ◌∷◌, ◌++◌, length, is_some, Some, None, Ok, Option, Result, ◌==◌, ◌≢◌, nat_le, slice_index, slice_index_or}
use Rattle.text.specs.declared.fault.Place.{Place}
use Rattle.text.specs.declared.fault.TextFault.{TextFault}
use Rattle.text.specs.declared.fault.TextFault.TheVariants.{BadName}
use Rattle.text.specs.Chains.{unless}
use Rattle.text.specs.Lists.{each}

abbrev pub letter : ℕ → Bool
letter b = (nat_le 65 b && nat_le b 90) || (nat_le 97 b && nat_le b 122)

-- a letter, a digit or an underscore
abbrev pub in_name : ℕ → Bool
in_name b = letter b || ((nat_le 48 b && nat_le b 57) || b == 95)

-- 1 to 24 letters, digits or underscores, the first a letter
abbrev pub good_name : List ℕ → Bool
good_name s = (nat_le 1 (length s) && nat_le (length s) 24) && (letter (slice_index s 0) && each in_name s)

-- how two names are compared: byte by byte
abbrev pub same_name : List ℕ → List ℕ → Bool
same_name [] [] = true
same_name [] (y ∷ ys) = false
same_name (x ∷ xs) [] = false
same_name (x ∷ xs) (y ∷ ys) = x == y && same_name xs ys

-- the place of the first name that is n, counted from i
abbrev pub found_from : ℕ → List ℕ → List (List ℕ) → Option ℕ
found_from i n [] = None
found_from i n (x ∷ xs) = cond (same_name x n) (Some i) (found_from (i + 1) n xs)

abbrev pub found_at : List ℕ → List (List ℕ) → Option ℕ
found_at n xs = found_from 0 n xs

-- the answer is the place of the first name that is n, or there is none
abbrev pub FirstOf : List (List ℕ) → List ℕ → Option ℕ → Type 0
FirstOf xs n None = (i : ℕ) → i < length xs → slice_index_or xs i [] ≢ n
FirstOf xs n (Some i) = (i < length xs) × (slice_index_or xs i [] ≡ n) × ((k : ℕ) → k < i → slice_index_or xs k [] ≢ n)

-- the name in a field
abbrev pub name_field : List ℕ → Place → Result (List ℕ) TextFault
name_field s at = unless (not (good_name s)) (BadName at) (λ _. Ok s)

-- none of the names is one of those seen, or an earlier one
abbrev pub distinct_from : List (List ℕ) → List (List ℕ) → Bool
distinct_from seen [] = true
distinct_from seen (n ∷ ns) = not (is_some (found_at n seen)) && distinct_from (seen ++ n ∷ []) ns

-- well formed and distinct
abbrev pub proper_names : List (List ℕ) → Bool
proper_names ns = each good_name ns && distinct_from [] ns
