-- State fields, as the code reads them.
use Rattle.std.proofs.Common.{◌≡◌, ℕ, Bool, true, eqb, List, [], ◌∷◌, map, length, IfOk, Result, sym, ◌∙◌}
use Rattle.std.specs.Cmp.Lexicographic.{pointwise}
use Rattle.std.proofs.lemmas.List.{length-map}
use Rattle.facts.specs.declared.state.State as code
use Rattle.facts.specs.States.{within}
use Rattle.facts.specs.Models.{row, mapped_ok}
use Rattle.text.specs.declared.fault.Place.{Place}
use Rattle.text.specs.declared.fault.TextFault.{TextFault}
use Rattle.names.specs.Names.{same_name}
use Rattle.names.specs.Literals.{state_field}
use Rattle.names.specs.Spelling.{SpellsExactly}
use Rattle.names.proofs.Bytes.{slices_same}
use Rattle.names.proofs.Inside.{within_read}
use Rattle.names.proofs.Writing.{spells_read}

-- whether the field is "."
pub dot : (f : List ℕ) (b : Bool) → b ≡ pointwise eqb f (46 ∷ []) → same_name f (46 ∷ []) ≡ b
dot f b h = sym (h ∙ slices_same f (46 ∷ []))

-- what comes out as the definition says keeps each clause of the contract
pub read_whole : {X : Type 0} (title : X → List ℕ) (rows : List X) (at : Place) (f : List ℕ) (r : Result code.State TextFault) → mapped_ok row r ≡ state_field (map title rows) at f → record { value : mapped_ok row r ≡ state_field (map title rows) at f; grammar : SpellsExactly (map title rows) f (mapped_ok row r); within : IfOk r (λ s. within (length rows) (row s) ≡ true) }
read_whole title rows at f r e =
    let facts = map title rows in
    record { value = e; grammar = spells_read facts at f (mapped_ok row r) e; within = within_read facts at f r (length rows) (length-map rows title) e }
