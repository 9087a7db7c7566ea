use Rattle.std.proofs.Common.{◌≡◌, ◌+◌, ◌*◌}
use Rattle.machine.specs.Machines.{board_of, plan_of, policy_of, ranks_of, state_of}
use Rattle.driver.proofs.Answering.{Driving}
use Rattle.driver.proofs.driving.answer_steps.Given as goal

abbrev pub invariant-loop-k : goal.invariant-loop-k
invariant-loop-k g l = record {
  bytes : l.reader.bytes.now ≡ l.run;
  place : l.reader.place ≡ 5 + 4 * l.k;
  plan : plan_of l.machine ≡ plan_of l.initial.machine;
  policy : policy_of l.machine ≡ policy_of l.initial.machine;
  ranks : ranks_of l.machine ≡ ranks_of l.initial.machine;
  driving : Driving (board_of l.initial.machine) (g.P.Policy.chosen (policy_of l.initial.machine)) (ranks_of l.initial.machine) l.run (state_of l.initial.machine) l.initial.out (state_of l.machine) l.out l.k;
}
