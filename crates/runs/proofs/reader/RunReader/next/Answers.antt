use Rattle.std.proofs.Common.{rules, get_or, ◌≡◌, ◌+◌, Err, ap, sym, ◌∙◌}
use Rattle.std.proofs.lemmas.Result.{err_from_is_err_and}
use Rattle.runs.specs.declared.step.Step.{Step}
use Rattle.runs.specs.Runs.{next_call, refused_at, step_at}
use Rattle.runs.specs.Steps.{step_call}
use Rattle.runs.proofs.Mapped.{from_err}
use Rattle.runs.proofs.reader.RunReader.next.Goals as goal

pub returns-in_err-call-clause-answer : goal.returns-in_err-call-clause-answer
returns-in_err-call-clause-answer c =
    let q = err_from_is_err_and c.from_residual.result c.from_residual.ensures.1 in
    let bs = c.args.self.now.bytes.now in
    let place = c.args.self.now.place in
    let k = from_err c.map_err.result _ c.try_from.result c.in_err-call.field-0.0 c.map_err.ensures.cases c.in_err-call.was in
    let what : c.in_err-call.field-0.0 ≡ refused_at place k.0 = search rules in
    let same : ◌≡◌ {A = Step} (record { code = get_or bs place 0; number = get_or bs (place + 1) 0; set = c.from_le_bytes.result }) (step_at bs place) = cc in
    let here : Err k.0 ≡ step_call (step_at bs place) = sym k.1 ∙ c.try_from.ensures ∙ ap step_call same in
    let this : Err (refused_at place k.0) ≡ next_call bs place = search rules in
    q.1 ∙ ap Err (q.2 ∙ what) ∙ this
