use Rattle.std.proofs.Common.{length, ap, ◌∙◌, arith}
use Rattle.kernel.specs.States.{State}
use Rattle.system.proofs.Ranked.{suspended_bounded}
use Rattle.machine.proofs.machine.Machine.suspended_count.Goals as goal

pub returns : goal.returns
returns g c =
    let is = c.len.ensures ∙ ap (λ (s : State). length s.suspended) c.state.ensures in
    record { is = is; figure = omega (arith, is, suspended_bounded c.args.self.now.system) }
