use Rattle.std.proofs.Common.{ℕ, rules, arith, refl, sym, ◌∙◌}
use Rattle.std.specs.Prelude.{◌==◌}
use Rattle.std.proofs.lemmas.Iterator.Search.{any_from_yields_List}
use Rattle.std.proofs.lemmas.Iterator.{YieldsList-from_range}
use Rattle.board.proofs.Counting.{some_listed}
use Rattle.board.proofs.figure.some_line.Goals as goal

pub returns : goal.returns
returns g c =
    let ranked = g.R.NestingRule.ranked c.args.rule.now in
    let has = λ (i : ℕ). ranked (record { 0 = i }) == c.args.rank in
    any_from_yields_List has _ _ c.any.result c.any.ensures.ran (YieldsList-from_range 0 c.args.lines c.args.lines refl (omega arith)) (λ x b q k. search rules)
    ∙ sym (some_listed ranked c.args.rank c.args.lines)
