use Rattle.std.proofs.Common.{◌≡◌, sym, ap, ◌∙◌, subst, arith}
use Rattle.policy.specs.Policies.{Exactly, stay}
use Rattle.policy.specs.Priorities.{StaysOrNearestOfHighest, share}
use Rattle.policy.specs.Leading.{share_exactly}
use Rattle.policy.proofs.policies.SharedPolicy.choose.Goals as goal

pub returns-clause-exactly : goal.returns-clause-exactly
returns-clause-exactly c =
    let ps = c.args.self.now.priorities.of in
    let s = c.args.ready.bits in
    let e : c.nearest.result ≡ share ps s c.args.current = c.nearest.ensures ∙ ap (λ n. stay n c.args.current) c.leaders.ensures in
    subst (Exactly (StaysOrNearestOfHighest ps s c.args.current)) (sym e) (share_exactly ps s (omega arith) c.args.current)
