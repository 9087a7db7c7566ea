use Rattle.std.proofs.Common.{sym}
use Rattle.policy.specs.Leading.{highest_none, highest_more_yes, highest_more_no}
use Rattle.policy.proofs.priorities.Priorities.highest.Goals as goal
use Rattle.policy.proofs.priorities.Priorities.highest.Goals.{then-contains, else-contains}

pub loop-t-init : goal.loop-t-init
loop-t-init c = sym (highest_none c.args.self.now.of c.args.set.bits)

pub loop-t-preserved : goal.loop-t-preserved
loop-t-preserved c =
    let ps = c.args.self.now.of in
    let s = c.args.set.bits in
    let t = c.loop-t.t in
    elim c.if-contains.branch [
      | then-contains w ↦ (let step = highest_more_yes ps s t w.if-contains.ensures in cc)
      | else-contains w ↦ (let step = highest_more_no ps s t w.if-contains.ensures in cc)
    ]
