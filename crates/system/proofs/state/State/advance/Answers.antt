use Rattle.std.proofs.Common.{length, ap, arith}
use Rattle.board.specs.Plans.{Parts, bits_of}
use Rattle.std.proofs.lemmas.List.{length-map}
use Rattle.system.proofs.state.State.advance.Goals as goal

pub woken-requires : goal.woken-requires
woken-requires g c =
    let plan = c.args.plan.now in
    omega (arith, length-map c.tables.result.wakes.now bits_of, ap (λ (p : Parts). length p.wakes) c.tables.ensures, plan.wakes_filled.counted, plan.wakes_filled.few)
