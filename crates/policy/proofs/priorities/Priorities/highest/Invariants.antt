use Rattle.std.proofs.Common.{◌≡◌}
use Rattle.policy.specs.Priorities.{highest_below}
use Rattle.policy.proofs.priorities.Priorities.highest.Given as goal

abbrev pub invariant-loop-t : goal.invariant-loop-t
invariant-loop-t l = l.high ≡ highest_below l.t l.self.of l.set.bits
