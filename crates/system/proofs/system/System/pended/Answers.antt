use Rattle.std.proofs.Common.{◌≡◌, true, List, sym, subst}
use Rattle.kernel.specs.declared.routine.Routine.{Routine}
use Rattle.kernel.specs.declared.routine.Routine.TheVariants.{Delayed}
use Rattle.kernel.specs.Rules.{lines}
use Rattle.kernel.specs.States as rules
use Rattle.system.specs.Stacked.{stacked}
use Rattle.system.specs.Systems.{board_of, ranks_of}
use Rattle.system.proofs.Ranked.{pended_stands, room_to_pend}
use Rattle.system.proofs.system.System.pended.Goals as goal

pub push-requires : goal.push-requires
push-requires c = room_to_pend c.args.self.now c.in-Task.t c.in-Task.is

pub invariant_of-self : goal.invariant_of-self
invariant_of-self c =
    let s = c.args.self.now in
    record {
      stands =
          subst (λ (w : rules.State). stacked (ranks_of s) (lines (board_of s)) w.active w.suspended ≡ true) (sym c.start_delayed.ensures)
          (subst (λ (rs : List Routine). stacked (ranks_of s) (lines (board_of s)) Delayed rs ≡ true) (sym c.push.ensures)
          (pended_stands s c.in-Task.t c.in-Task.is));
    }
