use Rattle.std.proofs.lemmas.List.{take_all}
use Rattle.machine.proofs.Lists.{makes_none, makes_more}
use Rattle.machine.proofs.machine.Machine.apply_all.Goals as goal

pub loop-k-init : goal.loop-k-init
loop-k-init g c = makes_none g.P.Policy.chosen c.args.self.now c.args.out.now

pub loop-k-preserved : goal.loop-k-preserved
loop-k-preserved g c = makes_more g.P.Policy.chosen c.args.calls.now c.loop-k.k _ _ _ _ _ _ _ c.loop-k-test.true c.requires c.loop-k.invariant c.apply.ensures

pub returns : goal.returns
returns g c = rw (take_all c.loop-k.k c.args.calls.now c.loop-k-test.false) at c.loop-k.invariant
