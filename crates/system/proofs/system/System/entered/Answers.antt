use Rattle.std.proofs.Common.{◌≡◌, true, List, sym, subst, rules}
use Rattle.kernel.specs.declared.routine.Routine.{Routine}
use Rattle.kernel.specs.declared.routine.Routine.TheVariants.{Handler}
use Rattle.kernel.specs.Rules.{lines}
use Rattle.system.specs.Stacked.{stacked}
use Rattle.system.specs.Systems.{board_of, ranks_of}
use Rattle.system.proofs.Ranked.{MayEnter, entered_stands, room_to_enter}
use Rattle.system.proofs.system.System.entered.Goals as goal

pub push-requires : goal.push-requires
push-requires c = room_to_enter c.args.self.now c.args.line (record { known = search rules; lower = search rules })

pub invariant_of-self : goal.invariant_of-self
invariant_of-self c =
    let s = c.args.self.now in
    let may : MayEnter s c.args.line = record { known = search rules; lower = search rules } in
    record {
      stands =
          subst (λ (rs : List Routine). stacked (ranks_of s) (lines (board_of s)) (Handler c.args.line) rs ≡ true) (sym c.push.ensures)
          (entered_stands s c.args.line may);
    }
