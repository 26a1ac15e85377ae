-- Bytes of names, of fields and of lines.
use Rattle.std.proofs.Common.{◌≡◌, ℕ, Bool, true, ◌&&◌, leb, List, [], ◌∷◌, ◌++◌, length, get_or, arith}
use Rattle.std.specs.List.{AllByRecursion}
use Rattle.std.proofs.lemmas.Bool.Decides.{nat_tests}
use Rattle.std.proofs.lemmas.Bool.{and_parts}
use Rattle.text.specs.Lists.{each}
use Rattle.text.proofs.Lists.{each_all, each_some, each_append}
use Rattle.text.proofs.Joins.{Free}
use Rattle.text.proofs.Endings.{line_byte, line_free}
use Rattle.names.specs.Names.{letter, in_name, good_name}

-- a byte from 20 to 7E
abbrev pub plain_byte : ℕ → Bool
plain_byte b = leb 32 b && leb b 126

name_plain : (b : ℕ) → in_name b ≡ true → plain_byte b ≡ true
name_plain b h = grind (arith, nat_tests)

pub plain_line : (b : ℕ) → plain_byte b ≡ true → line_byte b ≡ true
plain_line b h = grind (arith, nat_tests)

pub plain_tabless : (b : ℕ) → plain_byte b ≡ true → b ≡ 9 → ⊥
plain_tabless b h e = grind (arith, nat_tests)

pub good_bytes : (n : List ℕ) → good_name n ≡ true → each in_name n ≡ true
good_bytes n h = (and_parts (letter (get_or n 0 0)) (each in_name n) (and_parts (leb 1 (length n) && leb (length n) 24) (letter (get_or n 0 0) && each in_name n) h).1).1

pub good_plain : (n : List ℕ) → good_name n ≡ true → each plain_byte n ≡ true
good_plain n h = each_some in_name plain_byte name_plain n (good_bytes n h)

pub tabless : (s : List ℕ) → each plain_byte s ≡ true → Free 9 s
tabless s h = each_all plain_byte (λ b. b ≡ 9 → ⊥) plain_tabless s h

pub lined : (s : List ℕ) → each plain_byte s ≡ true → each line_byte s ≡ true
lined s h = each_some plain_byte line_byte plain_line s h

pub lined_append : (s t : List ℕ) → each line_byte s ≡ true → each line_byte t ≡ true → each line_byte (s ++ t) ≡ true
lined_append s t h k = each_append line_byte s t h k

pub all_free : (ls : List (List ℕ)) → AllByRecursion (λ l. each line_byte l ≡ true) ls → AllByRecursion (Free 10) ls
all_free [] h = tt
all_free (l ∷ ls) h = (line_free l h.0, all_free ls h.1)
