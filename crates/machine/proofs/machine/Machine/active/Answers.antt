use Rattle.board.specs.Ranks.{rank_bound}
use Rattle.board.proofs.Legality.{plan_legal}
use Rattle.kernel.proofs.Whole.{sound_where_led}
use Rattle.system.proofs.Ranked.{ranks_bounded}
use Rattle.machine.specs.Machines.{board_of, plan_of, ranks_of, state_of}
use Rattle.machine.proofs.machine.Machine.active.Goals as goal

pub returns-clause-sound : goal.returns-clause-sound
returns-clause-sound g c =
    let m = c.args.self.now in
    let owes = g.met.P.Policy in
    sound_where_led (board_of m) (g.P.Policy.chosen m.policy) (ranks_of m) (plan_legal (plan_of m))
    (record { member = owes.member m.policy; settles = owes.settles m.policy })
    (record { bound = rank_bound; bounded = ranks_bounded m.system })
    (state_of m)
