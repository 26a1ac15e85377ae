-- The tag of a line: its first field, if that is one of the letters that texts have.
use Rattle.std.specs.Prelude.{ℕ, cond, List, [], ◌∷◌, Some, None, Option, ◌==◌, slice_index_or}
use Rattle.text.specs.declared.tag.Tag.{Tag}
use Rattle.text.specs.declared.tag.Tag.TheVariants.{N, D, B, G, E, W, S, C, F, A, H}
use Rattle.text.specs.Lines.{fields}

abbrev pub by_letter : ℕ → Option Tag
by_letter b =
    cond (b == 78) (Some N) (cond (b == 68) (Some D) (cond (b == 66) (Some B) (cond (b == 71) (Some G) (cond (b == 69) (Some E) (cond (b == 87) (Some W) (cond (b == 83) (Some S) (cond (b == 67) (Some C) (cond (b == 70) (Some F) (cond (b == 65) (Some A) (cond (b == 72) (Some H) None))))))))))

abbrev pub of_field : List ℕ → Option Tag
of_field [] = None
of_field (b ∷ []) = by_letter b
of_field (b ∷ c ∷ s) = None

abbrev pub tag_of : List ℕ → Option Tag
tag_of l = of_field (slice_index_or (fields l) 0 [])
