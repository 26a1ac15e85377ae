use Rattle.std.proofs.Common.{map, sym, ◌∙◌, subst}
use Rattle.names.specs.Names.{FirstOf}
use Rattle.names.proofs.Bytes.{position_found}
use Rattle.names.proofs.Reading.{first_found}
use Rattle.names.proofs.name.calls.find.Goals as goal

pub returns : goal.returns
returns g c =
    let n = c.args.name.now in
    let names = map g.R.Named.title c.args.rows.now in
    let is = c.first_row.ensures.value ∙ position_found g.R.Named.title n c.args.rows.now in
    record { value = is; means = subst (FirstOf names n) (sym is) (first_found names n) }
