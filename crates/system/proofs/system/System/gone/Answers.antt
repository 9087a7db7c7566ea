use Rattle.std.proofs.Common.{◌≡◌, true, length, sym, refl, ap, ◌∙◌, subst}
use Rattle.board.specs.Viewed.{parts}
use Rattle.kernel.specs.Rules.{Outcome, gone, lines}
use Rattle.kernel.specs.States as rules
use Rattle.system.specs.declared.state.Standing.{Standing}
use Rattle.system.specs.Listed.{listed}
use Rattle.system.specs.Stacked.{rank_in, stacked}
use Rattle.system.specs.Views.{Room, go_at, view}
use Rattle.system.proofs.Standing.{go_keeps, gone_at, room_at}
use Rattle.system.proofs.system.System.gone.Goals as goal

pub advance-requires : goal.advance-requires
advance-requires g c =
    let m = c.args.self.now in
    subst (λ (st : Standing). Room st (length (listed m.state.suspended))) (sym c.standing-standing.ensures)
    (room_at (rank_in m.ranks.of) (lines (parts m.plan)) (view m.state) m.stands)

pub invariant_of-self : goal.invariant_of-self
invariant_of-self g c =
    let m = c.args.self.now in
    let plan = parts m.plan in
    let rank = rank_in m.ranks.of in
    let choose = g.P.Policy.chosen c.args.policy.now in
    let v = view m.state in
    record {
      stands =
          subst (λ (w : rules.State). stacked rank (lines plan) w.active w.suspended ≡ true)
          (sym (c.advance.ensures.state ∙ ap (λ (st : Standing). (go_at plan choose st v).0) c.standing-standing.ensures))
          (go_keeps plan choose rank v m.stands);
    }

pub returns : goal.returns
returns g c =
    let m = c.args.self.now in
    let rank = rank_in m.ranks.of in
    let choose = g.P.Policy.chosen c.args.policy.now in
    let v = view m.state in
    let same : go_at (parts m.plan) choose c.standing-standing.result v ≡ gone (parts m.plan) choose v =
    ap (λ (st : Standing). go_at (parts m.plan) choose st v) c.standing-standing.ensures ∙ gone_at (parts m.plan) choose rank v in
    record {
      state = c.advance.ensures.state ∙ ap (λ (o : Outcome). o.0) same;
      answer = c.advance.ensures.answer ∙ ap (λ (o : Outcome). o.1) same;
      plan = refl;
      ranks = refl;
    }
