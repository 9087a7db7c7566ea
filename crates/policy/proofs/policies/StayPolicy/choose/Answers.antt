use Rattle.std.proofs.Common.{sym, subst, arith}
use Rattle.policy.specs.Policies.{Exactly, StaysOrNearest}
use Rattle.policy.specs.Staying.{stay_exactly}
use Rattle.policy.proofs.policies.StayPolicy.choose.Goals as goal

pub returns-clause-exactly : goal.returns-clause-exactly
returns-clause-exactly c =
    let s = c.args.ready.bits in
    subst (Exactly (StaysOrNearest s c.args.current)) (sym c.nearest.ensures)
    (stay_exactly s c.args.current (omega arith))
