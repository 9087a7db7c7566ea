use Rattle.std.proofs.Common.{refl, ap, ◌∙◌}
use Rattle.kernel.specs.Numbers.{routine_number}
use Rattle.kernel.specs.States.{State}
use Rattle.kernel.proofs.Leading.{follows_from}
use Rattle.system.specs.Systems as system
use Rattle.machine.specs.Machines.{board_of, ranks_of, state_of}
use Rattle.machine.proofs.machine.Machine.apply.Goals as goal

pub returns : goal.returns
returns g c =
    let m = c.args.self.now in
    let choose = g.P.Policy.chosen m.policy in
    let done = c.apply-given.ensures in
    record {
      follows =
          follows_from (board_of m) choose (ranks_of m) c.args.call (state_of m) (system.state_of c.apply-given.new.self) c.number.result c.number-2.result
          done.state (c.number.ensures ∙ done.answer)
          (c.number-2.ensures ∙ ap (λ (s : State). routine_number s.active) c.state.ensures);
      plan = done.plan;
      policy = refl;
      ranks = done.ranks;
    }
