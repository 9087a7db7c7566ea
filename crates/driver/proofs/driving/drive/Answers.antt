use Rattle.std.proofs.Common.{◌≡◌, ℕ, List, IfOk, IfErr, Ok, Err, Result, sym, refl, ap, ◌∙◌, subst}
use Rattle.std.proofs.lemmas.Result.{err_from_is_err_and, IfOk-from_err, IfOk-weaker}
use Rattle.board.specs.Planned.{plan_choice}
use Rattle.board.specs.Plans.{Parts}
use Rattle.board.specs.Ranks.{plan_rank, rank_by}
use Rattle.board.specs.Viewed.{parts}
use Rattle.board.proofs.Chosen.{plan_chosen}
use Rattle.board.proofs.Ranking.{plan_ranked}
use Rattle.formats.specs.declared.fault.PlanFault.{PlanFault}
use Rattle.formats.specs.Decode.{decode}
use Rattle.kernel.specs.declared.call.Call.{Call}
use Rattle.kernel.specs.Rules.{Chooses, Ranks}
use Rattle.runs.specs.Runs.{decode_run}
use Rattle.driver.specs.declared.fault.DriveFault.{DriveFault}
use Rattle.driver.specs.declared.fault.DriveFault.TheVariants.{Plan}
use Rattle.driver.specs.Driven.{SoundRun, left, plan_answered, run_answered}
use Rattle.driver.proofs.Soundness.{of_same}
use Rattle.driver.proofs.driving.drive.Goals as goal

pub returns-in_err-plan : goal.returns-in_err-plan
returns-in_err-plan c =
    let out = c.args.out.now in
    let lower = c.in_err-plan.field-0.0 in
    let q = err_from_is_err_and c.from_residual.result c.from_residual.ensures.1 in
    let is : c.from_residual.result ≡ Err (Plan lower) = q.1 ∙ ap Err q.2 in
    record {
      answer =
          ap (λ (r : Result ℕ DriveFault). left r out) is
          ∙ ap (λ (r : Result (Parts × List ℕ) PlanFault). plan_answered r out) c.in_err-plan.ensures.answer;
      kept = subst (λ (r : Result ℕ DriveFault). IfErr r (λ _. out ≡ out)) (sym is) refl;
      sound = IfOk-from_err c.from_residual.result _ c.from_residual.ensures.0;
    }

pub returns : goal.returns
returns c =
    let bs = c.args.bytes.now in
    let out = c.args.out.now in
    let later = c.drive_run.new.out in
    let rest = c.in_ok-plan.rest.now in
    let p = parts c.in_ok-plan.plan in
    let read : Ok (p, rest) ≡ decode bs = c.in_ok-plan.ensures.answer in
    let pol = c.policy.result in
    let nest = c.nesting.result in
    let chosen = plan_chosen p pol.below.kind pol.below.priorities.of pol.group.bits c.policy.ensures.kind c.policy.ensures.priorities c.policy.ensures.group in
    let ranked = plan_ranked p nest.rule nest.levels.of c.nesting.ensures.rule c.nesting.ensures.levels in
    let done = c.drive_run.ensures in
    let under : Chooses → Ranks → Type 0 = λ ch rk. IfOk c.drive_run.result (λ _. (calls : List Call) → decode_run rest ≡ Ok calls → SoundRun p ch rk calls later) in
    let own : under (plan_choice p) (plan_rank p) =
    subst (λ (rk : Ranks). under (plan_choice p) rk) ranked
    (subst (λ (ch : Chooses). under ch (rank_by nest.rule nest.levels.of)) chosen done.sound) in
    record {
      answer =
          done.answer
          ∙ ap (λ (ch : Chooses). run_answered p ch (rank_by nest.rule nest.levels.of) (decode_run rest) out) chosen
          ∙ ap (λ (rk : Ranks). run_answered p (plan_choice p) rk (decode_run rest) out) ranked
          ∙ ap (λ (r : Result (Parts × List ℕ) PlanFault). plan_answered r out) read;
      kept = done.kept;
      sound = IfOk-weaker c.drive_run.result _ _ (λ n h q others calls is calls_are. of_same p rest later q others (read ∙ is) calls calls_are h) own;
    }
