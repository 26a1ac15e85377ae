use Rattle.std.proofs.Common.{refl, Ok, Err}
use Rattle.lists.proofs.Answering.{known_by, good_by, fails_by}
use Rattle.lists.proofs.failure.first_failure.Goals as goal

pub shown-requires : goal.shown-requires
shown-requires c = known_by c.args.list.now (Err c.in-Err.lack) c.in-Err.ensures.value

pub returns-in-Ok-clause-good : goal.returns-in-Ok-clause-good
returns-in-Ok-clause-good c = good_by c.args.list.now (Ok tt) c.in-Ok.ensures.value c.args.example.now c.args.example.now refl

pub returns-in-Ok-clause-fails : goal.returns-in-Ok-clause-fails
returns-in-Ok-clause-fails c = fails_by c.args.list.now (Ok tt) c.in-Ok.ensures.value c.args.example.now c.args.example.now refl

pub returns-in-Err-clause-good : goal.returns-in-Err-clause-good
returns-in-Err-clause-good c = good_by c.args.list.now (Err c.in-Err.lack) c.in-Err.ensures.value c.args.example.now c.shown.result (c.shown.ensures.size, c.shown.ensures.facts)

pub returns-in-Err-clause-fails : goal.returns-in-Err-clause-fails
returns-in-Err-clause-fails c = fails_by c.args.list.now (Err c.in-Err.lack) c.in-Err.ensures.value c.args.example.now c.shown.result (c.shown.ensures.size, c.shown.ensures.facts)
