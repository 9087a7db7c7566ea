use Rattle.std.proofs.Common.{◌≡◌, map}
use Rattle.board.specs.Plans.{bits_of}
use Rattle.kernel.specs.Rules.{woken_below}
use Rattle.system.proofs.waking.woken.Given as goal

abbrev pub invariant-loop-e : goal.invariant-loop-e
invariant-loop-e l = l.tasks.bits ≡ woken_below l.e (map bits_of l.wakes) l.events.bits
