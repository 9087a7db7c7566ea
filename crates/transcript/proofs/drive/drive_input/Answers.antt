use Rattle.std.proofs.Common.{◌≡◌, ℕ, ◌≤◌, List, length, IfErr, Err, Result, sym, ap, ◌∙◌, subst}
use Rattle.std.proofs.lemmas.Result.{err_from_is_err_and}
use Rattle.std.proofs.lemmas.Bool.{cond-false, le-ltb}
use Rattle.driver.specs.Driven.{driven}
use Rattle.report.specs.declared.fault.ProgramFault.{ProgramFault}
use Rattle.report.specs.declared.fault.ProgramFault.TheVariants.{Drive}
use Rattle.transcript.specs.Inputs.{driven_input, left_input, of_drive}
use Rattle.transcript.proofs.drive.drive_input.Goals as goal

-- input that is not too long is driven
within : (bs out : List ℕ) → length bs ≤ 65536 → of_drive (driven bs out) ≡ driven_input bs out
within bs out short = sym (cond-false _ _ _ (le-ltb 65536 (length bs) short))

pub returns-in_err-drive : goal.returns-in_err-drive
returns-in_err-drive c =
    let bs = c.args.bytes.now in
    let out = c.args.out.now in
    let later = c.drive.new.out in
    let lower = c.in_err-drive.field-0.0 in
    let q = err_from_is_err_and c.from_residual.result c.from_residual.ensures.1 in
    let is : c.from_residual.result ≡ Err (Drive lower) = q.1 ∙ ap Err q.2 in
    let done = c.in_err-drive.ensures in
    record {
      answer = ap (λ (r : Result ℕ ProgramFault). left_input r later) is ∙ ap of_drive done.answer ∙ within bs out c.if-bytes-gt-LIMIT.false;
      kept = subst (λ (r : Result ℕ ProgramFault). IfErr r (λ _. later ≡ out)) (sym is) done.kept;
    }

pub returns : goal.returns
returns c =
    record { answer = ap of_drive c.in_ok-drive.ensures.answer ∙ within c.args.bytes.now c.args.out.now c.if-bytes-gt-LIMIT.false; kept = tt }
