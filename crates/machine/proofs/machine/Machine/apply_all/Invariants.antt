use Rattle.std.proofs.Common.{take}
use Rattle.machine.specs.Making.{MakesAll}
use Rattle.machine.proofs.machine.Machine.apply_all.Given as goal

abbrev pub invariant-loop-k : goal.invariant-loop-k
invariant-loop-k g l = MakesAll g.P.Policy.chosen (take l.k l.calls) l.initial.self l.self l.initial.out l.out
