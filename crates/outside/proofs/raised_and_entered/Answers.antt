use Rattle.std.proofs.Common.{[], ◌∷◌, ◌∙◌, subst}
use Rattle.board.specs.declared.plan.Plan.{Plan}
use Rattle.board.specs.Viewed.{parts}
use Rattle.kernel.specs.declared.call.Call.TheVariants.{Raise, Enter}
use Rattle.kernel.specs.Afterwards.{SoundHoweverLed}
use Rattle.kernel.specs.Histories.{Leads}
use Rattle.kernel.specs.Rules.{Chooses}
use Rattle.machine.specs.Machines.{board_of, plan_of, policy_of, ranks_of, state_of}
use Rattle.outside.proofs.raised_and_entered.Goals as goal

pub returns : goal.returns
returns g c =
    let line = c.args.line in
    let p = parts c.args.plan in
    let chosen : g.row.P.Denot → Chooses = g.P.Policy.chosen in
    let m0 = c.start-machine.result in
    let m1 = c.raise.new.self in
    let m2 = c.enter.new.self in
    let begun = c.start-machine.ensures in
    let one = c.raise.ensures in
    let two = c.enter.ensures in
    let none : Leads (board_of m0) (chosen (policy_of m0)) (ranks_of m0) [] (state_of m0) = cc in
    let raised = one.follows.leads [] none in
    let raised_later : Leads (board_of m1) (chosen (policy_of m1)) (ranks_of m1) (Raise line ∷ []) (state_of m1) = cc in
    let entered = two.follows.leads (Raise line ∷ []) raised_later in
    let led : Leads p (chosen c.args.policy) (ranks_of m2) (Raise line ∷ Enter line ∷ []) (state_of m2) = cc in
    let sound : SoundHoweverLed p (chosen c.args.policy) (ranks_of m2) (state_of m2) =
    subst (λ (q : Plan). SoundHoweverLed (parts q) (chosen c.args.policy) (ranks_of m2) (state_of m2)) (two.plan ∙ one.plan ∙ begun.plan)
    (subst (λ (x : g.row.P.Denot). SoundHoweverLed (parts (plan_of m2)) (chosen x) (ranks_of m2) (state_of m2)) (two.policy ∙ one.policy ∙ begun.policy) c.active.ensures.sound) in
    sound (Raise line ∷ Enter line ∷ []) led
