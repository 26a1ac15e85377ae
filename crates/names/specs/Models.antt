-- What stands in the code's names.
use Rattle.std.specs.Prelude.{ℕ, List}
use Rattle.filled.specs.Items.{items_of}
use Rattle.names.specs.declared.name.Name.{Name}

-- the bytes of a name
abbrev pub spelling : Name → List ℕ
spelling n = items_of n.bytes
