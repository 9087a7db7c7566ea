use Rattle.std.proofs.Common.{◌≡◌}
use Rattle.numbers.specs.Sets.{gathered}
use Rattle.policy.specs.Priorities.{member_of_priority}
use Rattle.policy.proofs.priorities.Priorities.leaders.Given as goal

abbrev pub invariant-loop-t : goal.invariant-loop-t
invariant-loop-t l = l.found.bits ≡ gathered l.t (member_of_priority l.self.of l.set.bits l.high)
