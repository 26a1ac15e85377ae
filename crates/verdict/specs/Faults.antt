-- The number, line and field of each fault of a slip.
use Rattle.std.specs.Prelude.{ℕ}
use Rattle.text.specs.Faults.{refusal_of}
use Rattle.verdict.specs.declared.fault.SlipFault.{SlipFault}
use Rattle.verdict.specs.declared.fault.SlipFault.TheVariants.{Text, WrongTag, WrongFields, OutOfOrder, Missing, TooDeep, EndsEarly, LineAfter, WeakenUncovered, ComposeUncovered, ShrinkUncovered, EffectBarred, FrameNamed, TooManyJobs, OpeningDiffers, EndDiffers}

abbrev pub refusal_of_slip : SlipFault → ℕ × ℕ × ℕ
refusal_of_slip (Text e) = refusal_of e
refusal_of_slip (WrongTag line) = (4, line, 1)
refusal_of_slip (WrongFields line) = (5, line, 1)
refusal_of_slip (OutOfOrder line) = (12, line, 1)
refusal_of_slip (Missing line) = (12, line, 0)
refusal_of_slip (TooDeep line) = (20, line, 1)
refusal_of_slip (EndsEarly line) = (21, line, 0)
refusal_of_slip (LineAfter line) = (22, line, 1)
refusal_of_slip (WeakenUncovered line) = (23, line, 2)
refusal_of_slip (ComposeUncovered line) = (24, line, 1)
refusal_of_slip (ShrinkUncovered line) = (25, line, 2)
refusal_of_slip (EffectBarred line) = (26, line, 2)
refusal_of_slip (FrameNamed line) = (27, line, 2)
refusal_of_slip (TooManyJobs line) = (28, line, 1)
refusal_of_slip OpeningDiffers = (29, 1, 2)
refusal_of_slip EndDiffers = (29, 2, 2)
