use Rattle.std.proofs.Common.{◌≡◌, ℕ, IfErr, Err, Result, sym, refl, ap, ◌∙◌, subst, arith}
use Rattle.std.proofs.lemmas.Slice.{put_mid-paste}
use Rattle.std.proofs.lemmas.Result.{err_from_is_err_and, IfOk-from_err}
use Rattle.board.specs.Refusing.{ComesFirst}
use Rattle.board.proofs.Refusing.{all_passed, first_failed}
use Rattle.runs.specs.declared.fault.RunFault.{RunFault}
use Rattle.runs.specs.Runs.{run_head, steps_tests}
use Rattle.runs.specs.Written.{write_tests}
use Rattle.runs.proofs.RoundTrip.{buffer_refused, refusing, steps_refused, written_run}
use Rattle.runs.proofs.write.write_run.Goals as goal

pub returns-in_err-check_steps : goal.returns-in_err-check_steps
returns-in_err-check_steps c =
    let steps = c.args.steps.now in
    let out = c.args.out.now in
    let f = c.in_err-check_steps.field-0.0 in
    let q = err_from_is_err_and c.from_residual.result c.from_residual.ensures.1 in
    let is : c.from_residual.result ≡ Err f = q.1 ∙ ap Err q.2 in
    let h = refusing steps out f (steps_refused steps out f (omega arith) (first_failed (steps_tests 5 steps) c.in_err-check_steps.ensures.answer)) in
    record {
      answer = is ∙ h.answer;
      buffer = h.buffer;
      reads_back = IfOk-from_err c.from_residual.result _ c.from_residual.ensures.0;
      first = subst (λ (r : Result ℕ RunFault). IfErr r (λ fault. ComesFirst (write_tests steps out) fault)) (sym is) h.first_found;
    }

pub returns-then-out-size : goal.returns-then-out-size
returns-then-out-size c =
    let steps = c.args.steps.now in
    let out = c.args.out.now in
    let good = all_passed (steps_tests 5 steps) c.in_ok-check_steps.ensures.answer in
    let h = refusing steps out _ (buffer_refused steps out (omega arith) good (omega arith)) in
    record { answer = h.answer; buffer = h.buffer; reads_back = tt; first = h.first_found }

pub returns : goal.returns
returns c =
    let steps = c.args.steps.now in
    let out = c.args.out.now in
    let passed = c.in_ok-check_steps.ensures in
    let good = all_passed (steps_tests 5 steps) passed.answer in
    let head = put_mid-paste 0 5 out c.copy_from_slice.new.self run_head 5 c.copy_from_slice.ensures.after refl refl in
    let h = written_run steps out _ c.put_steps.new.out head c.put_steps.ensures (omega arith) good passed.sized (omega arith) in
    record { answer = h.answer; buffer = h.buffer; reads_back = h.reads_back; first = tt }
