use Rattle.std.proofs.Common.{◌≡◌, ℕ, ◌*◌, ◌<◌, ◌≤◌, List, ◌++◌, map, length, drop, IfErr, Ok, Err, Result, sym, refl, ap, ◌∙◌, subst, arith}
use Rattle.std.proofs.lemmas.Result.{err_from_is_err_and, IfOk-from_err}
use Rattle.numbers.specs.declared.number.LineNo.{LineNo}
use Rattle.board.specs.declared.plan.Plan.{Plan}
use Rattle.board.specs.Ranks.{rank_bound}
use Rattle.board.specs.Viewed.{parts}
use Rattle.board.proofs.Legality.{plan_legal}
use Rattle.kernel.specs.Histories.{answers}
use Rattle.kernel.specs.Rules.{Chooses, Ranks, lines}
use Rattle.kernel.specs.States.{State, start}
use Rattle.kernel.proofs.Agreeing.{same_answers}
use Rattle.machine.specs.Machines.{policy_of, ranks_of, state_of}
use Rattle.runs.specs.Runs.{steps_in}
use Rattle.runs.specs.Steps.{call_of}
use Rattle.runs.proofs.OneForm.{counted_accepted, counted_refused}
use Rattle.driver.specs.declared.fault.DriveFault.{DriveFault}
use Rattle.driver.specs.declared.fault.DriveFault.TheVariants.{Run}
use Rattle.driver.specs.Driven.{flat, left}
use Rattle.driver.proofs.Soundness.{answered_run, refused_buffer, refused_run, sound_run}
use Rattle.driver.proofs.driving.drive_run.Goals as goal

pub returns-in_err-count : goal.returns-in_err-count
returns-in_err-count g c =
    let run = c.args.run.now in
    let out = c.args.out.now in
    let lower = c.in_err-count.field-0.0 in
    let q = err_from_is_err_and c.from_residual.result c.from_residual.ensures.1 in
    let is : c.from_residual.result ≡ Err (Run lower) = q.1 ∙ ap Err q.2 in
    record {
      answer =
          ap (λ (r : Result ℕ DriveFault). left r out) is
          ∙ refused_run (parts c.args.plan) (g.P.Policy.chosen c.args.policy) (g.N.NestingRule.ranked c.args.rule.now) run out lower
          (counted_refused run lower c.in_err-count.ensures.answer);
      kept = subst (λ (r : Result ℕ DriveFault). IfErr r (λ _. out ≡ out)) (sym is) refl;
      sound = IfOk-from_err c.from_residual.result _ c.from_residual.ensures.0;
    }

pub returns-then-out-count : goal.returns-then-out-count
returns-then-out-count g c =
    let run = c.args.run.now in
    let out = c.args.out.now in
    let k = counted_accepted run c.in_ok-count.count c.in_ok-count.ensures.answer in
    let short : length out < 2 * length (steps_in (drop 5 run)) = omega (arith, k.1) in
    record {
      answer = refused_buffer (parts c.args.plan) (g.P.Policy.chosen c.args.policy) (g.N.NestingRule.ranked c.args.rule.now) run out k.0 short;
      kept = refl;
      sound = tt;
    }

pub answer_steps-requires : goal.answer_steps-requires
answer_steps-requires g c =
    let k = counted_accepted c.args.run.now c.in_ok-count.count c.in_ok-count.ensures.answer in
    record { good = k.0; steps = k.1; room = omega arith }

pub returns : goal.returns
returns g c =
    let run = c.args.run.now in
    let out = c.args.out.now in
    let plan = c.args.plan in
    let policy = c.args.policy in
    let p = parts plan in
    let m = c.start-machine.result in
    let begun = c.start-machine.ensures in
    let choose : Chooses = g.P.Policy.chosen policy in
    let rank : Ranks = g.N.NestingRule.ranked c.args.rule.now in
    let owes = g.met.P.Policy in
    let k = counted_accepted run c.in_ok-count.count c.in_ok-count.ensures.answer in
    let calls = map call_of (steps_in (drop 5 run)) in
    let more = drop (2 * c.in_ok-count.count) out in
    let few : lines p ≤ 16 = omega (arith, plan.levels_filled.few, plan.levels_filled.counted) in
    let same : (i : LineNo) → i.0 < lines p → ranks_of m i ≡ rank i = λ i l. begun.ranks i (omega arith) in
    let written : c.answer_steps.new.out ≡ flat (answers p choose rank calls (start p)) ++ drop (2 * length (steps_in (drop 5 run))) out =
    c.answer_steps.ensures.out
    ∙ (ap (λ (q : Plan). flat (answers (parts q) (g.P.Policy.chosen (policy_of m)) (ranks_of m) calls (state_of m)) ++ more) begun.plan
    ∙ (ap (λ (x : g.row.P.Denot). flat (answers p (g.P.Policy.chosen x) (ranks_of m) calls (state_of m)) ++ more) begun.policy
    ∙ (ap (λ (s : State). flat (answers p choose (ranks_of m) calls s) ++ more) begun.state
    ∙ (ap (λ (l : List (ℕ × ℕ)). flat l ++ more) (same_answers p choose (ranks_of m) rank same calls)
    ∙ ap (λ n. flat (answers p choose rank calls (start p)) ++ drop (2 * n) out) k.1)))) in
    record {
      answer =
          ap (λ n. Ok (n, c.answer_steps.new.out)) k.1
          ∙ answered_run p choose rank run out k.0 c.answer_steps.new.out written (omega (arith, k.1));
      kept = tt;
      sound =
          sound_run p choose rank run out k.0 c.answer_steps.new.out written (plan_legal plan)
          (record { member = owes.member policy; settles = owes.settles policy })
          (record { bound = rank_bound; bounded = g.met.N.NestingRule.bounded c.args.rule.now });
    }
