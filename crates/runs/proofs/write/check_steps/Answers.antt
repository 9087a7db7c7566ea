use Rattle.std.proofs.Common.{◌≡◌, ◌+◌, ◌*◌, get_or, Err, sym, ap, ◌∙◌, rules, below_more}
use Rattle.std.proofs.lemmas.Result.{err_from_is_err_and}
use Rattle.board.proofs.Refusing.{all_passed, first_failed}
use Rattle.runs.specs.Runs.{refused_at}
use Rattle.runs.specs.Steps.{step_tests}
use Rattle.runs.proofs.Mapped.{from_err, from_ok}
use Rattle.runs.proofs.Writing.{blank, check_fault, check_more}
use Rattle.runs.proofs.write.check_steps.Goals as goal

pub loop-k-preserved : goal.loop-k-preserved
loop-k-preserved c =
    let steps = c.args.steps.now in
    let k = c.loop-k.k-counter in
    let fine = from_ok c.map_err.result _ c.check.result c.in_ok-map_err.field-0 c.map_err.ensures.cases c.in_ok-map_err.was in
    record {
      passed = check_more steps k c.loop-k.invariant.passed c.loop-k-test.true (all_passed (step_tests (get_or steps k blank)) (sym fine ∙ c.check.ensures.answer));
      sized = below_more _ _ c.loop-k.invariant.sized c.check.ensures.sized;
    }

pub returns-in_err-map_err-clause-answer : goal.returns-in_err-map_err-clause-answer
returns-in_err-map_err-clause-answer c =
    let steps = c.args.steps.now in
    let k = c.loop-k.k-counter in
    let f = c.in_err-map_err.field-0.0 in
    let q = err_from_is_err_and c.from_residual.result c.from_residual.ensures.1 in
    let bad = from_err c.map_err.result _ c.check.result f c.map_err.ensures.cases c.in_err-map_err.was in
    let what : f ≡ refused_at (5 + 4 * k) bad.0 = search rules in
    q.1
    ∙ ap Err (q.2 ∙ what)
    ∙ check_fault steps k c.loop-k.invariant.passed bad.0 c.loop-k-test.true (first_failed (step_tests (get_or steps k blank)) (sym bad.1 ∙ c.check.ensures.answer))
