use Rattle.std.proofs.Common.{◌≡◌, ◌+◌, ◌≤◌, drop}
use Rattle.text.specs.Looks.{passed, start}
use Rattle.text.proofs.Looking.{cursor_at}
use Rattle.text.proofs.whole.look.Given as goal

abbrev pub invariant-loop-b : goal.invariant-loop-b
invariant-loop-b l = record {
  line : l.at.line ≤ l.b-index + 1;
  field : l.at.field ≤ l.b-index + 1;
  rest : passed (cursor_at l.at l.text l.b-index) (drop l.b-index l.text) ≡ passed start l.text;
}
