use Rattle.std.proofs.Common.{List, ℕ, Bor, arith, rules}
use Rattle.report.proofs.Texts.{lines_all, lines_more}
use Rattle.report.proofs.quote.Quote.text.Goals as goal

pub loop-name-preserved : goal.loop-name-preserved
loop-name-preserved c =
    lines_more (λ (name : Bor (List ℕ)). name.now) _ c.loop-name.name-index _ c.loop-name-test.true c.loop-name.invariant c.add_line.ensures

pub returns : goal.returns
returns c =
    lines_all (λ (name : Bor (List ℕ)). name.now) _ c.loop-name.name-index c.loop-name-test.false (omega arith) (
      omega arith,
      search rules,
      (
        omega arith,
        search rules,
        (
          omega arith,
          search rules,
          (
            omega arith,
            search rules,
            (omega arith, search rules, (omega arith, search rules, (omega arith, search rules, (omega arith, search rules, tt)))),
          ),
        ),
      ),
    )
    c.loop-name.invariant
