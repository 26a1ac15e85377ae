use Rattle.std.proofs.Common.{map, Ok, sym, ap, ◌∙◌}
use Rattle.names.specs.Literals.{parted}
use Rattle.names.proofs.Literals.{dot, read_whole}
use Rattle.names.proofs.literal.read_state.Goals as goal

pub returns-then-eq : goal.returns-then-eq
returns-then-eq g c =
    let names = map g.R.Named.title c.args.facts.now in
    let f = c.args.field.now in
    read_whole g.R.Named.title c.args.facts.now c.args.at f (Ok c.empty.result)
    (ap Ok c.empty.ensures.value ∙ sym (ap (λ x. parted x names c.args.at f) (dot f _ c.if-eq.ensures)))

pub returns : goal.returns
returns g c =
    let names = map g.R.Named.title c.args.facts.now in
    let f = c.args.field.now in
    read_whole g.R.Named.title c.args.facts.now c.args.at f c.read_literals.result
    (c.read_literals.ensures.value ∙ sym (ap (λ x. parted x names c.args.at f) (dot f _ c.if-eq.ensures)))
