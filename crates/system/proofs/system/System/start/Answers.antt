use Rattle.std.proofs.Common.{◌≤◌, refl, arith}
use Rattle.board.specs.Viewed.{parts}
use Rattle.kernel.specs.Rules.{lines}
use Rattle.system.specs.Stacked.{rank_in}
use Rattle.system.proofs.Figures.{same_figure}
use Rattle.system.proofs.system.System.start.Goals as goal

pub returns : goal.returns
returns g c =
    let plan = c.args.plan in
    let rank = rank_in c.of_rule.result.of in
    let few : lines (parts plan) ≤ 16 = omega (arith, plan.levels_filled.few, plan.levels_filled.counted) in
    record {
      state = c.start-state.ensures;
      plan = refl;
      ranks = c.of_rule.ensures;
      figure = same_figure rank (g.N.NestingRule.ranked c.args.rule.now) (lines (parts plan)) (λ i l. c.of_rule.ensures i (omega arith));
    }
