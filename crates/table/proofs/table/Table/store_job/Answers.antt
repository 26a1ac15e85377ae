use Rattle.std.proofs.Common.{length, ap, ◌∙◌, arith}
use Rattle.std.proofs.lemmas.List.{length_push, map_push}
use Rattle.filled.specs.Items.{items_of}
use Rattle.filled.proofs.Pushed.{pushed}
use Rattle.table.specs.Rows.{row_of, rows_of, proper_jobs}
use Rattle.table.proofs.Storing.{jobs_push}
use Rattle.table.proofs.table.Table.store_job.Goals as goal

pub invariant_of-self : goal.invariant_of-self
invariant_of-self c =
    let t = c.args.self.now in
    let r = c.args.row in
    let e = pushed 128 (items_of t.jobs) r c.push.result (items_of c.push.new.self) c.push.ensures.after c.requires.room in
    record {
      few_facts = t.few_facts;
      few_jobs = omega (arith, ap length e, length_push (items_of t.jobs) r, c.requires.room);
      named = t.named;
      able = ap (λ rs. proper_jobs (length (items_of t.facts)) (rows_of rs)) e ∙ ap (proper_jobs (length (items_of t.facts))) (map_push row_of (items_of t.jobs) r) ∙ jobs_push (length (items_of t.facts)) (rows_of (items_of t.jobs)) (row_of r) t.able c.requires.new.0 c.requires.new.1 c.requires.within;
    }
