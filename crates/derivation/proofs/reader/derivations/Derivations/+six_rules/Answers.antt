use Rattle.table.specs.Models.{table_of}
use Rattle.derivation.specs.Models.{bar_of}
use Rattle.derivation.specs.Readers.{cursor_of}
use Rattle.derivation.proofs.Steps.{at_rule, says_like}
use Rattle.derivation.proofs.reader.derivations.Derivations.+six_rules.Goals as goal

pub read-returns-clause-reads : goal.read-returns-clause-reads
read-returns-clause-reads t c =
    let e = at_rule (table_of c.args.self.table.now) c.args.self.left (bar_of c.args.bar.now) (cursor_of c.args.reader.now) (cursor_of c.next_line.new.self) c.in-Some.line c.in_ok-rule.rule c.if-self-eq0.false c.in-Some.ensures.cases c.in_ok-rule.ensures.value in
    says_like c.by_rule.result (cursor_of c.by_rule.new.reader) _ _ e c.by_rule.ensures.reads
