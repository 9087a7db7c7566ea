use Rattle.std.proofs.Common.{◌≡◌, sym, ap, ◌∙◌, subst, arith}
use Rattle.policy.specs.Policies.{Exactly, stay}
use Rattle.policy.specs.Priorities.{HighestThenLowest, by_priority}
use Rattle.policy.specs.Leading.{by_priority_exactly}
use Rattle.policy.proofs.policies.PriorityPolicy.choose.Goals as goal

pub returns-clause-exactly : goal.returns-clause-exactly
returns-clause-exactly c =
    let ps = c.args.self.now.priorities.of in
    let s = c.args.ready.bits in
    let e : c.nearest.result ≡ by_priority ps s = c.nearest.ensures ∙ ap (λ n. stay n (record { 0 = 0 })) c.leaders.ensures in
    subst (Exactly (HighestThenLowest ps s)) (sym e) (by_priority_exactly ps s (omega arith))
