use Rattle.std.proofs.Common.{◌≡◌, take}
use Rattle.formats.specs.Written.{placed}
use Rattle.runs.specs.Runs.{fours}
use Rattle.runs.proofs.write.put_steps.Given as goal

abbrev pub invariant-loop-k : goal.invariant-loop-k
invariant-loop-k l = l.out ≡ placed l.initial.out 5 (fours (take l.k l.steps))
