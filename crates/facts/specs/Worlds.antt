-- Worlds, and what carrying out a job does to them.
use Rattle.std.specs.Prelude.{◌≡◌, ℕ, suc, ◌≤◌, Bool, true, false, cond, not, ◌&&◌, [], ◌∷◌, Ok, Err, Result}
use Rattle.facts.specs.declared.mark.Mark.{Mark}
use Rattle.facts.specs.declared.mark.Mark.TheVariants.{Unnamed, Holds, Fails}
use Rattle.facts.specs.declared.world.PastFault.{PastFault}
use Rattle.facts.specs.declared.world.PastFault.TheVariants.{FactPast}
use Rattle.facts.specs.States.{State, Has, mark, within}

-- a world: whether fact i holds
abbrev pub World : Type 0
World = ℕ → Bool

-- a world of n facts: none past them holds
abbrev pub Sized : ℕ → World → Type 0
Sized n w = (i : ℕ) → n ≤ i → w i ≡ false

-- every literal of s is true in w
abbrev pub Meets : World → State → Type 0
Meets w s = (i : ℕ) (b : Bool) → Has s i b → w i ≡ b

-- whether a fact that is as x says makes the literal true, if there is one
abbrev pub agrees : Mark → Bool → Bool
agrees Unnamed x = true
agrees Holds x = x
agrees Fails x = not x

-- whether w meets s
abbrev pub meets : World → State → Bool
meets w [] = true
meets w (m ∷ s) = agrees m (w 0) && meets (λ i. w (suc i)) s

abbrev pub unmet_one : Mark → Bool → Mark
unmet_one m x = cond (agrees m x) Unnamed m

-- the literals of s that are not true in w
abbrev pub unmet : World → State → State
unmet w [] = []
unmet w (m ∷ s) = unmet_one m (w 0) ∷ unmet (λ i. w (suc i)) s

abbrev pub set_one : Mark → Bool → Bool
set_one Unnamed x = x
set_one Holds x = true
set_one Fails x = false

-- the facts of E set, and no other
abbrev pub carried : State → World → World
carried E w = λ i. set_one (mark E i) (w i)

-- a job: what must be met before it, and what it sets
pub record Job : Type 0 where
  pub precondition : State
  pub effect : State

-- whether the job names only facts below n
abbrev pub job_within : ℕ → Job → Bool
job_within n j = within n j.precondition && within n j.effect

-- a world of n facts with the facts of s set: refused where s names a fact past them
abbrev pub set_facts : ℕ → State → World → Result World PastFault
set_facts n s w = cond (within n s) (Ok (carried s w)) (Err FactPast)

-- a world of n facts once the job is carried out: refused where the job names a fact past them
abbrev pub carry : ℕ → Job → World → Result World PastFault
carry n j w = cond (job_within n j) (Ok (carried j.effect w)) (Err FactPast)
