use Rattle.std.proofs.Common.{List, length, ap, ◌∙◌, arith}
use Rattle.std.proofs.lemmas.List.{length_push, map_push}
use Rattle.filled.specs.Items.{items_of}
use Rattle.filled.proofs.Pushed.{pushed}
use Rattle.names.specs.Models.{spelling}
use Rattle.names.specs.Names.{proper_names}
use Rattle.table.specs.declared.fact_row.FactRow.{FactRow}
use Rattle.table.specs.declared.job_row.JobRow.{JobRow}
use Rattle.table.specs.Rows.{titles, rows_of, proper_jobs}
use Rattle.table.proofs.Storing.{proper_push}
use Rattle.table.proofs.table.Table.store_fact.Goals as goal

pub invariant_of-self : goal.invariant_of-self
invariant_of-self c =
    let t = c.args.self.now in
    let r = c.args.row in
    let e = pushed 256 (items_of t.facts) r c.push.result (items_of c.push.new.self) c.push.ensures.after c.requires.room in
    record {
      few_facts = omega (arith, ap length e, length_push (items_of t.facts) r, c.requires.room);
      few_jobs = t.few_jobs;
      named = ap (λ fs. proper_names (titles fs)) e ∙ ap proper_names (map_push (λ (f : FactRow). spelling f.name) (items_of t.facts) r) ∙ proper_push (titles (items_of t.facts)) (spelling r.name) t.named c.requires.new.0 c.requires.new.1;
      able = ap (λ (rs : List JobRow). proper_jobs (length (items_of c.push.new.self)) (rows_of rs)) c.requires.first;
    }
