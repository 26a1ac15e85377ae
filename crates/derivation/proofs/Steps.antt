-- One line of a derivation.
use Rattle.std.proofs.Common.{◌≡◌, ℕ, zero, suc, ◌-◌, List, length, Some, Ok, Err, Result, sym, refl, ap, ◌∙◌, subst, arith}
use Rattle.facts.specs.States.{State, nothing}
use Rattle.text.specs.declared.line.Line.{Line}
use Rattle.text.specs.Chains.{then}
use Rattle.text.specs.Lines.{fields}
use Rattle.text.specs.Tags.{tag_of}
use Rattle.table.specs.Tables.{Table}
use Rattle.verdict.specs.declared.fault.SlipFault.{SlipFault}
use Rattle.verdict.specs.declared.fault.SlipFault.TheVariants.{TooDeep}
use Rattle.verdict.specs.declared.rule.Rule.{Rule}
use Rattle.verdict.specs.Lines.{rule_tag}
use Rattle.derivation.specs.declared.ends.Ends as code
use Rattle.derivation.specs.Readers.{ends_of, Took, Says}
use Rattle.verdict.specs.Verdicts.{Plan, Ends, Cursor, Read, by_rule, rule_line, derivation, judge, judge_under}

-- what follows the tag of a rule line
abbrev pub deeper : Table → ℕ → State → ℕ → Rule → List (List ℕ) → Cursor → Read Ends
deeper t zero bar at r fs d = Err (TooDeep at)
deeper t (suc n) bar at r fs d = by_rule t r (derivation t n) bar at fs d

lined : (t : Table) (n : ℕ) (bar : State) (c : Cursor) → derivation t n bar c ≡ rule_line c.rest c (deeper t n bar c.line)
lined t zero bar c = refl
lined t (suc n) bar c = refl

tagged : (t : Table) (n : ℕ) (bar : State) (c d : Cursor) (l : Line) (o : Result Rule SlipFault) → Took c (Some l) d → o ≡ rule_tag (tag_of l.text.now) (length (fields l.text.now)) l.number → derivation t n bar c ≡ then o (λ r. deeper t n bar l.number r (fields l.text.now) d)
tagged t n bar c d l o (e, k, p) h =
    lined t n bar c
    ∙ ap (λ ls. rule_line ls c (deeper t n bar c.line)) e
    ∙ ap (λ x. then (rule_tag (tag_of l.text.now) (length (fields l.text.now)) c.line) (λ r. deeper t n bar c.line r (fields l.text.now) x)) (sym p)
    ∙ ap (λ x. then (rule_tag (tag_of l.text.now) (length (fields l.text.now)) x) (λ r. deeper t n bar x r (fields l.text.now) d)) (sym k)
    ∙ ap (λ x. then x (λ r. deeper t n bar l.number r (fields l.text.now) d)) (sym h)

-- a line that is a rule line
pub at_rule : (t : Table) (n : ℕ) (bar : State) (c d : Cursor) (l : Line) (r : Rule) → (n ≡ 0 → ⊥) → Took c (Some l) d → Ok r ≡ rule_tag (tag_of l.text.now) (length (fields l.text.now)) l.number → derivation t n bar c ≡ by_rule t r (derivation t (n - 1)) bar l.number (fields l.text.now) d
at_rule t n bar c d l r pos took h =
    let m : n ≡ suc (n - 1) = omega arith in
    tagged t n bar c d l (Ok r) took h ∙ ap (λ k. deeper t k bar l.number r (fields l.text.now) d) m

-- what a call answers, where the definition comes out alike
pub says_like : (r : Result code.Ends SlipFault) (d : Cursor) (o p : Read Ends) → o ≡ p → Says ends_of r d p → Says ends_of r d o
says_like r d o p e h = subst (λ (x : Read Ends). Says ends_of r d x) (sym e) h

-- a verdict with nothing barred
pub none_barred : (t : Table) (s : List ℕ) (b : State) (r : Result Plan SlipFault) → b ≡ nothing → r ≡ judge_under t b s → r ≡ judge t s
none_barred t s b r e h = h ∙ ap (λ x. judge_under t x s) e
