use Rattle.std.proofs.Common.{◌≡◌, ℕ, suc, ◌+◌, ◌*◌, List, [], ◌∷◌, drop, set, Some, None, Ok, Err, sym, refl, ap, ◌∙◌, subst, arith}
use Rattle.std.proofs.lemmas.List.Edits.{sets-eq}
use Rattle.board.specs.declared.plan.Plan.{Plan}
use Rattle.board.specs.Refusing.{first}
use Rattle.board.specs.Viewed.{parts}
use Rattle.kernel.specs.Histories.{Follows}
use Rattle.kernel.specs.Rules.{Chooses, Ranks}
use Rattle.machine.specs.Machines.{board_of, policy_of, ranks_of, state_of}
use Rattle.runs.specs.Runs.{next_call, next_place, opening_tests, steps_in, steps_tests}
use Rattle.runs.proofs.Counts.{opened_long, run_found}
use Rattle.runs.proofs.OneForm.{neither}
use Rattle.runs.proofs.Stepping.{next_fault, next_none, next_some}
use Rattle.driver.proofs.Answering.{driving_all, driving_end, driving_more, driving_none, no_fault}
use Rattle.driver.proofs.driving.answer_steps.Goals as goal

pub loop-k-init : goal.loop-k-init
loop-k-init g c =
    let run = c.args.run.now in
    let m = c.args.machine.now in
    let opened = c.in_ok-reader.ensures in
    let passed = neither (first (opening_tests run)) (first (steps_tests 5 (steps_in (drop 5 run)))) (sym (run_found run) ∙ c.requires.good) in
    record {
      bytes = opened.1;
      place = opened.2;
      plan = refl;
      policy = refl;
      ranks = refl;
      driving = driving_none (board_of m) (g.P.Policy.chosen (policy_of m)) (ranks_of m) run (state_of m) c.args.out.now (opened_long run opened.0) passed.1;
    }

pub returns-in_err-call : goal.returns-in_err-call
returns-in_err-call g c =
    let run = c.args.run.now in
    let m = c.args.machine.now in
    let l = c.loop-k in
    let f = c.in_err-call.field-0.0 in
    let told : next_call run (5 + 4 * l.k) ≡ Err f =
    sym (c.in_err-call.ensures.answer ∙ ap (λ (b : List ℕ). next_call b l.reader.place) l.invariant.bytes ∙ ap (next_call run) l.invariant.place) in
    let k = next_fault run (5 + 4 * l.k) f told in
    absurd (no_fault (board_of m) (g.P.Policy.chosen (policy_of m)) (ranks_of m) run (state_of m) c.args.out.now (state_of l.machine) l.out l.k l.invariant.driving f k.0 k.1)

pub returns-in_default-clause-out : goal.returns-in_default-clause-out
returns-in_default-clause-out g c =
    let run = c.args.run.now in
    let m = c.args.machine.now in
    let l = c.loop-k in
    let told : next_call run (5 + 4 * l.k) ≡ Ok None =
    sym (ap Ok (sym c.in_default.is) ∙ c.in_ok-call.ensures.answer ∙ ap (λ (b : List ℕ). next_call b l.reader.place) l.invariant.bytes ∙ ap (next_call run) l.invariant.place) in
    driving_end (board_of m) (g.P.Policy.chosen (policy_of m)) (ranks_of m) run (state_of m) c.args.out.now (state_of l.machine) l.out l.k l.invariant.driving
    c.args.count c.requires.steps (next_none run (5 + 4 * l.k) told)

pub returns-clause-out : goal.returns-clause-out
returns-clause-out g c =
    let m = c.args.machine.now in
    let l = c.loop-k in
    driving_all (board_of m) (g.P.Policy.chosen (policy_of m)) (ranks_of m) c.args.run.now (state_of m) c.args.out.now (state_of l.machine) l.out l.k l.invariant.driving
    c.args.count c.requires.steps c.loop-k-test.false

pub loop-k-preserved : goal.loop-k-preserved
loop-k-preserved g c =
    let run = c.args.run.now in
    let m = c.args.machine.now in
    let l = c.loop-k in
    let n = c.in_ok-call.ensures in
    let told : next_call run (5 + 4 * l.k) ≡ Ok (Some c.in-Some.call) =
    sym (ap Ok (sym c.in-Some.is) ∙ n.answer ∙ ap (λ (b : List ℕ). next_call b l.reader.place) l.invariant.bytes ∙ ap (next_call run) l.invariant.place) in
    let here = next_some run (5 + 4 * l.k) c.in-Some.call told in
    let done = c.apply-answer.ensures in
    let r = c.apply-answer.result in
    let later = state_of c.apply-answer.new.self in
    let call = c.in-Some.call in
    let meaning : g.row.P.Denot → Chooses = g.P.Policy.chosen in
    let moved : c.next.new.self.place ≡ l.reader.place + 4 = n.place ∙ ap (λ o. next_place l.reader.place (Ok o)) c.in-Some.is in
    let f : Follows (board_of m) (meaning (policy_of m)) (ranks_of m) call (state_of l.machine) later r =
    subst (λ (ranks : Ranks). Follows (board_of m) (meaning (policy_of m)) ranks call (state_of l.machine) later r) l.invariant.ranks
    (subst (λ (x : g.row.P.Denot). Follows (board_of m) (meaning x) (ranks_of l.machine) call (state_of l.machine) later r) l.invariant.policy
    (subst (λ (q : Plan). Follows (parts q) (meaning (policy_of l.machine)) (ranks_of l.machine) call (state_of l.machine) later r) l.invariant.plan done.follows)) in
    let two : List ℕ = r.0 ∷ r.1 ∷ [] in
    let next : 2 * l.k + 1 ≡ suc (2 * l.k) = omega arith in
    record {
      bytes = n.bytes ∙ l.invariant.bytes;
      place = omega (arith, moved, l.invariant.place);
      plan = done.plan ∙ l.invariant.plan;
      policy = done.policy ∙ l.invariant.policy;
      ranks = done.ranks ∙ l.invariant.ranks;
      driving =
          driving_more (board_of m) (meaning (policy_of m)) (ranks_of m) run (state_of m) c.args.out.now (state_of l.machine) l.out l.k l.invariant.driving
          later call _ r.0 r.1 here.0 (omega arith) here.2 f.state f.numbers
          (ap (λ i. set (set l.out (2 * l.k) r.0) i r.1) next ∙ sets-eq two l.out (2 * l.k) (omega arith));
    }
