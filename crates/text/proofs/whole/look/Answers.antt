use Rattle.std.proofs.Common.{◌≡◌, Ok, Err, arith}
use Rattle.std.proofs.lemmas.Grind.{common_steps}
use Rattle.text.specs.declared.fault.TextFault.TheVariants.{Unended}
use Rattle.text.specs.Looks.{looked}
use Rattle.text.proofs.Outcomes.{looks_of}
use Rattle.text.proofs.whole.look.Goals as goal

pub returns-in_err-pass : goal.returns-in_err-pass
returns-in_err-pass c =
    let is : c.from_residual.result ≡ looked c.args.text.now = grind (arith, common_steps) in
    record { value = is; means = looks_of _ _ is }

pub returns-then-is_some_and : goal.returns-then-is_some_and
returns-then-is_some_and c =
    let is : Err (Unended c.loop-b.at.line) ≡ looked c.args.text.now = grind (arith, common_steps) in
    record { value = is; means = looks_of _ _ is }

pub returns : goal.returns
returns c =
    let is : Ok tt ≡ looked c.args.text.now = grind (arith, common_steps) in
    record { value = is; means = looks_of _ _ is }
