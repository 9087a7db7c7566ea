use Rattle.std.proofs.Common.{◌≡◌, ◌+◌, ap, sym, subst}
use Rattle.board.specs.Figure.{figure_of, OneMoreThanTheDeepestNest}
use Rattle.board.specs.Ranks.{rank_bound}
use Rattle.board.proofs.Counting.{figure_nests}
use Rattle.board.proofs.figure.figure.Goals as goal

pub returns-clause-nests : goal.returns-clause-nests
returns-clause-nests g c =
    let ranked = g.R.NestingRule.ranked c.args.rule.now in
    let plan = c.args.plan.now in
    let is : figure_of ranked plan.levels.count ≡ 1 + c.ranks_of.result = ap (λ d. 1 + d) (sym c.ranks_of.ensures.is) in
    subst (λ n. OneMoreThanTheDeepestNest ranked n (1 + c.ranks_of.result)) (sym plan.levels_filled.counted)
    (subst (OneMoreThanTheDeepestNest ranked plan.levels.count) is (figure_nests ranked rank_bound (g.met.R.NestingRule.bounded c.args.rule.now) plan.levels.count))
