use Rattle.std.proofs.Common.{◌≡◌, ◌-◌, ◌<◌, ◌≤◌}
use Rattle.policy.specs.Policies.{first_from}
use Rattle.policy.proofs.nearest.nearest.Given as goal

abbrev pub invariant-loop-i : goal.invariant-loop-i
invariant-loop-i l =
    (l.at < 16) × (l._i ≤ 16)
    × (first_from 16 l.set.bits l.initial.at ≡ first_from (16 - l._i) l.set.bits l.at)
