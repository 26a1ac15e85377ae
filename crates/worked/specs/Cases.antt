-- Worked cases of one hut, and one computed check over all of them.
use Rattle.std.specs.Prelude.{ℕ, Bool, false, cond, ◌&&◌, List, [], ◌∷◌, map, Ok, Err, codes, Result, ◌==◌}
use Prim.Native.String.{String}
use Rattle.text.specs.Lists.{each}
use Rattle.names.specs.Names.{same_name as same_numbers}
use Rattle.table.specs.declared.fault.TableFault.{TableFault}
use Rattle.table.specs.Faults.{refusal_of_table}
use Rattle.table.specs.Tables.{Table, read_table}
use Rattle.verdict.specs.declared.fault.SlipFault.{SlipFault}
use Rattle.verdict.specs.Faults.{refusal_of_slip}
use Rattle.verdict.specs.Verdicts.{Plan, judge}

-- the number, line and field of a refusal
abbrev pub Refusal : Type 0
Refusal = ℕ × ℕ × ℕ

-- texts as they are written below, with the answer that is expected
pub data Case : Type 0 where
  -- a table with its refusal
  refused_table : String → Refusal → Case
  -- a table and a slip with its refusal
  refused_slip : String → String → Refusal → Case
  -- a table and a slip with the plan's number of facts and the numbers of its jobs
  accepted_slip : String → String → ℕ → List ℕ → Case

-- in a case / stands for the end of a line, and | for the tab
abbrev pub byte : ℕ → ℕ
byte b = cond (b == 47) 10 (cond (b == 124) 9 b)

abbrev pub text : String → List ℕ
text s = map byte (codes s)

abbrev pub same_refusal : Refusal → Refusal → Bool
same_refusal a b = a.0 == b.0 && (a.1 == b.1 && a.2 == b.2)

-- refused so
abbrev pub refused : {X E : Type 0} → (E → Refusal) → Refusal → Result X E → Bool
refused refusal_of expected (Ok x) = false
refused refusal_of expected (Err e) = same_refusal (refusal_of e) expected

-- accepted, with so many facts and these jobs
abbrev pub accepted : ℕ → List ℕ → Result Plan SlipFault → Bool
accepted facts jobs (Ok p) = p.facts == facts && same_numbers p.numbers jobs
accepted facts jobs (Err e) = false

-- the table is read, and passes the test
abbrev pub over : Result Table TableFault → (Table → Bool) → Bool
over (Ok t) test = test t
over (Err e) test = false

abbrev pub holds : Case → Bool
holds (refused_table t r) = refused refusal_of_table r (read_table (text t))
holds (refused_slip t s r) = over (read_table (text t)) (λ u. refused refusal_of_slip r (judge u (text s)))
holds (accepted_slip t s n L) = over (read_table (text t)) (λ u. accepted n L (judge u (text s)))

abbrev pub all_hold : List Case → Bool
all_hold cs = each holds cs

-- the hut: sweep is job 0, and open_gas job 1
abbrev pub hut : String
hut = "N|free/N|clean/N|gas/D|sweep|+free -gas|+clean/D|open_gas|+clean|+gas/"

-- the hut is swept, and then its gas is opened
abbrev pub both_jobs : Case
both_jobs = accepted_slip hut "B|+free -gas/G|+clean +gas/W|+free -gas/S|+clean +gas/C/F|./A|sweep/F|+free/A|open_gas/" 3 (0 ∷ 1 ∷ [])

-- the same without the frame that keeps free, which the goal does not ask for
abbrev pub frame_left_out : Case
frame_left_out = accepted_slip hut "B|+free -gas/G|+clean +gas/W|+free -gas/S|+clean +gas/C/F|./A|sweep/A|open_gas/" 3 (0 ∷ 1 ∷ [])

-- W leaves out that the gas is shut, which sweep needs
abbrev pub gas_left_out : Case
gas_left_out = refused_slip hut "B|+free -gas/G|+clean +gas/W|+free/S|+clean +gas/C/F|./A|sweep/F|+free/A|open_gas/" (23, 3, 2)

-- a frame keeps the gas shut, and open_gas inside it opens the gas; that S leaves gas out of the end does not help
abbrev pub gas_opened_in_frame : Case
gas_opened_in_frame = refused_slip hut "B|+clean -gas/G|+clean -gas/F|-gas/S|+clean/A|open_gas/" (26, 5, 2)

-- an effect that opens the gas and shuts it
abbrev pub both_signs : Case
both_signs = refused_table "N|gas/D|x|.|+gas -gas/" (9, 2, 4)

-- a slip of no lines lacks its B line
abbrev pub no_lines : Case
no_lines = refused_slip hut "" (12, 1, 0)

abbrev pub cases : List Case
cases = both_jobs ∷ frame_left_out ∷ gas_left_out ∷ gas_opened_in_frame ∷ both_signs ∷ no_lines ∷ []
