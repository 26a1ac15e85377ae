-- The verdict on a slip: every text is accepted, or gets its one refusal.
use Rattle.std.specs.Prelude.{ℕ, zero, suc, ◌+◌, Bool, true, false, not, ◌||◌, List, [], ◌∷◌, ◌++◌, map, length, Ok, Err, Result, nat_le, slice_index_or}
use Rattle.facts.specs.States.{State, nothing, overridden, covers, same, apart}
use Rattle.facts.specs.Worlds.{Job}
use Rattle.text.specs.Chains.{then, then_in, unless}
use Rattle.text.specs.Looks.{looked}
use Rattle.text.specs.Lines.{lines, fields}
use Rattle.text.specs.Tags.{tag_of}
use Rattle.names.specs.Literals.{state_field}
use Rattle.table.specs.Tables.{Table, place}
use Rattle.table.specs.Jobs.{job_number, job_at}
use Rattle.verdict.specs.declared.fault.SlipFault.{SlipFault}
use Rattle.verdict.specs.declared.fault.SlipFault.TheVariants.{Text, Missing, TooDeep, EndsEarly, LineAfter, WeakenUncovered, ComposeUncovered, ShrinkUncovered, EffectBarred, FrameNamed, TooManyJobs, OpeningDiffers, EndDiffers}
use Rattle.verdict.specs.declared.rule.Rule.{Rule}
use Rattle.verdict.specs.declared.rule.Rule.TheVariants.{Halt, Apply, Compose, Weaken, Shrink, Frame}
use Rattle.verdict.specs.declared.rule.Header.{Header}
use Rattle.verdict.specs.declared.rule.Header.TheVariants.{Opening, Goal}
use Rattle.verdict.specs.Lines.{header_tag, rule_tag}

-- an accepted plan: its table's number of facts, its opening and goal, and its jobs, with their numbers in the table
pub record Plan : Type 0 where
  pub facts : ℕ
  pub opening : State
  pub goal : State
  pub jobs : List Job
  pub numbers : List ℕ

abbrev pub plan_from : Table → State → State → List ℕ → Plan
plan_from t O G L = record { facts = length t.facts; opening = O; goal = G; jobs = map (job_at t) L; numbers = L }

-- the two ends of a derivation
pub record Ends : Type 0 where
  pub opening : State
  pub end : State

-- where a reader stands: the number of the next line, the lines from it on, and the jobs read so far
pub record Cursor : Type 0 where
  pub line : ℕ
  pub rest : List (List ℕ)
  pub jobs : List ℕ

-- what is read, and where the reader stands then
abbrev pub Read : Type 0 → Type 0
Read X = Result (X × Cursor) SlipFault

abbrev pub then_read : {X Y : Type 0} → Read X → (X → Cursor → Result Y SlipFault) → Result Y SlipFault
then_read (Ok p) f = f p.0 p.1
then_read (Err e) f = Err e

-- past the next line, after which these lines come
abbrev pub past : Cursor → List (List ℕ) → Cursor
past c ls = record { line = c.line + 1; rest = ls; jobs = c.jobs }

abbrev pub with_number : Cursor → ℕ → Cursor
with_number c k = record { line = c.line; rest = c.rest; jobs = c.jobs ++ k ∷ [] }

-- a state in the second field of line `at`
abbrev pub second_state : Table → ℕ → List (List ℕ) → (State → Read Ends) → Read Ends
second_state t at fs f = then_in Text (state_field t.facts (place at 2) (slice_index_or fs 1 [])) f

-- the ends of one job
abbrev pub applied : Job → Ends
applied j = record { opening = j.precondition; end = overridden j.precondition j.effect }

-- a line A, with the field f: no job 65, the name of a job, whose effect names no barred fact
abbrev pub apply : Table → State → ℕ → List ℕ → Cursor → Read Ends
apply t bar at f c =
    unless (nat_le 64 (length c.jobs)) (TooManyJobs at) (λ _.
    then_in Text (job_number t f (place at 2)) (λ k.
    unless (not (apart bar (job_at t k).effect)) (EffectBarred at) (λ _.
    Ok (applied (job_at t k), with_number c k))))

-- a derivation read under a bar: the facts that the bar names are barred to effects
abbrev pub Reader : Type 0
Reader = State → Cursor → Read Ends

-- two derivations, one after the other
abbrev pub premises : Reader → State → Cursor → Read (Ends × Ends)
premises read bar c = then_read (read bar c) (λ a d. then_read (read bar d) (λ b e. Ok ((a, b), e)))

-- a line C: the first end covers the second opening
abbrev pub compose : Reader → State → ℕ → Cursor → Read Ends
compose read bar at c =
    then_read (premises read bar c) (λ p d.
    unless (not (covers p.0.end p.1.opening)) (ComposeUncovered at) (λ _.
    Ok (record { opening = p.0.opening; end = p.1.end }, d)))

-- a line W with the state P, which covers the premise's opening
abbrev pub weaken : Reader → State → ℕ → State → Cursor → Read Ends
weaken read bar at P c =
    then_read (read bar c) (λ a d.
    unless (not (covers P a.opening)) (WeakenUncovered at) (λ _.
    Ok (record { opening = P; end = a.end }, d)))

-- a line S with the state Q, which the premise's end covers
abbrev pub shrink : Reader → State → ℕ → State → Cursor → Read Ends
shrink read bar at Q c =
    then_read (read bar c) (λ a d.
    unless (not (covers a.end Q)) (ShrinkUncovered at) (λ _.
    Ok (record { opening = a.opening; end = Q }, d)))

-- a line F with the state R: the premise is read with the facts of R barred too, and its ends name none of them
abbrev pub frame : Reader → State → ℕ → State → Cursor → Read Ends
frame read bar at R c =
    then_read (read (overridden bar R) c) (λ a d.
    unless (not (apart R a.opening) || not (apart R a.end)) (FrameNamed at) (λ _.
    Ok (record { opening = overridden a.opening R; end = overridden a.end R }, d)))

-- a rule line `at` with fields fs, its premises read by `read` from c on
abbrev pub by_rule : Table → Rule → Reader → State → ℕ → List (List ℕ) → Cursor → Read Ends
by_rule t Halt read bar at fs c = Ok (record { opening = nothing; end = nothing }, c)
by_rule t Apply read bar at fs c = apply t bar at (slice_index_or fs 1 []) c
by_rule t Compose read bar at fs c = compose read bar at c
by_rule t Weaken read bar at fs c = second_state t at fs (λ P. weaken read bar at P c)
by_rule t Shrink read bar at fs c = second_state t at fs (λ Q. shrink read bar at Q c)
by_rule t Frame read bar at fs c = second_state t at fs (λ R. frame read bar at R c)

-- the next line, which has to be of a rule
abbrev pub rule_line : List (List ℕ) → Cursor → (Rule → List (List ℕ) → Cursor → Read Ends) → Read Ends
rule_line [] c f = Err (EndsEarly c.line)
rule_line (l ∷ ls) c f = then (rule_tag (tag_of l) (length (fields l)) c.line) (λ r. f r (fields l) (past c ls))

-- a derivation with at most so many lines above each other: a line deeper than that gets 20, after 4, 12 and 5
abbrev pub derivation : Table → ℕ → Reader
derivation t zero bar c = rule_line c.rest c (λ r fs d. Err (TooDeep c.line))
derivation t (suc left) bar c = rule_line c.rest c (λ r fs d. by_rule t r (derivation t left) bar c.line fs d)

-- the next line, which has to be the wanted one of B and G
abbrev pub header_line : Table → Header → List (List ℕ) → Cursor → Read State
header_line t wanted [] c = Err (Missing c.line)
header_line t wanted (l ∷ ls) c =
    then (header_tag wanted (tag_of l) (length (fields l)) c.line) (λ _.
    then_in Text (state_field t.facts (place c.line 2) (slice_index_or (fields l) 1 [])) (λ s.
    Ok (s, past c ls)))

abbrev pub header : Table → Header → Cursor → Read State
header t wanted c = header_line t wanted c.rest c

abbrev pub some_left : List (List ℕ) → Bool
some_left [] = false
some_left (l ∷ ls) = true

-- no line is left
abbrev pub finish : Cursor → Read (Unit {0})
finish c = unless (some_left c.rest) (LineAfter c.line) (λ _. Ok (tt, c))

-- the derivation's ends are the opening O and the goal G
abbrev pub agree : State → State → Ends → Result (Unit {0}) SlipFault
agree O G a =
    unless (not (same a.opening O)) OpeningDiffers (λ _.
    unless (not (same a.end G)) EndDiffers (λ _.
    Ok tt))

abbrev pub conclude : Table → State → State → Ends → Cursor → Result Plan SlipFault
conclude t O G a c =
    then_read (finish c) (λ _ d.
    then (agree O G a) (λ _.
    Ok (plan_from t O G d.jobs)))

abbrev pub start : List ℕ → Cursor
start s = record { line = 1; rest = lines s; jobs = [] }

-- the B line, the G line, the derivation under a bar, and the end
abbrev pub judge_lines : Table → State → Cursor → Result Plan SlipFault
judge_lines t bar c =
    then_read (header t Opening c) (λ O d.
    then_read (header t Goal d) (λ G e.
    then_read (derivation t 80 bar e) (λ a f.
    conclude t O G a f)))

-- the look over the whole text, and then its lines
abbrev pub judge_under : Table → State → List ℕ → Result Plan SlipFault
judge_under t bar s = then_in Text (looked s) (λ _. judge_lines t bar (start s))

-- the verdict: nothing is barred at the start
abbrev pub judge : Table → List ℕ → Result Plan SlipFault
judge t s = judge_under t nothing s
