use Rattle.std.proofs.Common.{rules, arith, sym, ◌∙◌}
use Rattle.std.proofs.lemmas.Iterator.Consumers.{YieldsList-from_filter, count_from_yields_List}
use Rattle.std.proofs.lemmas.Iterator.{YieldsList-from_range}
use Rattle.board.specs.Figure.{first_of_its_rank}
use Rattle.board.proofs.Counting.{many_listed}
use Rattle.board.proofs.figure.ranks_of.Goals as goal

pub returns-clause-is : goal.returns-clause-is
returns-clause-is g c =
    let first = first_of_its_rank (g.R.NestingRule.ranked c.args.rule.now) in
    count_from_yields_List _ c.count-different.result c.count-different.ensures.ran
    (YieldsList-from_filter _ first (YieldsList-from_range 0 c.args.lines c.args.lines c.filter.ensures.source (omega arith)) c.filter.ensures.closure (λ x b q k. search rules))
    ∙ sym (many_listed first c.args.lines)
