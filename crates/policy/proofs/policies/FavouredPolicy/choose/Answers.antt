use Rattle.std.proofs.Common.{◌≡◌, sym, subst, arith, rules}
use Rattle.policy.specs.Policies.{Exactly, Favours, favour}
use Rattle.policy.specs.Favouring.{favour_exactly}
use Rattle.policy.proofs.policies.FavouredPolicy.choose.Goals as goal

pub returns-then-is_empty-clause-exactly : goal.returns-then-is_empty-clause-exactly
returns-then-is_empty-clause-exactly g c =
    let below = g.P.Policy.chosen c.args.self.now.below in
    let f = c.args.self.now.group.bits in
    let s = c.args.ready.bits in
    let e : c.choose.result ≡ favour below f s c.args.current = search rules in
    subst (Exactly (Favours below f s c.args.current)) (sym e) (favour_exactly below f s (omega arith) c.args.current)

pub returns-else-is_empty-clause-exactly : goal.returns-else-is_empty-clause-exactly
returns-else-is_empty-clause-exactly g c =
    let below = g.P.Policy.chosen c.args.self.now.below in
    let f = c.args.self.now.group.bits in
    let s = c.args.ready.bits in
    let e : c.choose-else-is_empty.result ≡ favour below f s c.args.current = search rules in
    subst (Exactly (Favours below f s c.args.current)) (sym e) (favour_exactly below f s (omega arith) c.args.current)
