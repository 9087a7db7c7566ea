use Rattle.std.proofs.Common.{sym, ◌∙◌}
use Rattle.board.specs.Viewed.{parts}
use Rattle.kernel.proofs.Leading.{leads_none}
use Rattle.system.specs.Systems.{ranks_of}
use Rattle.machine.proofs.machine.Machine.start.Goals as goal

pub returns-clause-leads : goal.returns-clause-leads
returns-clause-leads g c =
    leads_none (parts c.args.plan) (g.P.Policy.chosen c.args.policy) (ranks_of c.start.result) ∙ sym c.start.ensures.state
