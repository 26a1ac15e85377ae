use Rattle.std.proofs.Common.{length, ap, ◌∙◌, arith}
use Rattle.std.proofs.lemmas.List.{length_push, map_push}
use Rattle.filled.specs.Items.{items_of}
use Rattle.facts.specs.Models.{row, job_of}
use Rattle.filled.proofs.Pushed.{pushed}
use Rattle.lists.specs.Lists.{jobs_of, fits}
use Rattle.lists.proofs.Places.{fits_push}
use Rattle.lists.proofs.list.JobList.store.Goals as goal

pub invariant_of-self : goal.invariant_of-self
invariant_of-self c =
    let l = c.args.self.now in
    let j = c.args.job in
    let e = pushed 64 (items_of l.jobs) j c.push.result (items_of c.push.new.self) c.push.ensures.after c.requires.room in
    record {
      few = l.few;
      short = omega (arith, ap length e, length_push (items_of l.jobs) j, c.requires.room);
      inside = ap (fits l.count (row l.opening) (row l.goal)) (ap jobs_of e ∙ map_push job_of (items_of l.jobs) j) ∙ fits_push l.count (row l.opening) (row l.goal) (jobs_of (items_of l.jobs)) (job_of j) l.inside c.requires.inside;
    }
