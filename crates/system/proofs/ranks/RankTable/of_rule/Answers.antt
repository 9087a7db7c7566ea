use Rattle.std.proofs.Common.{◌≡◌, ℕ, ◌<◌, get_or, arith, rules}
use Rattle.std.proofs.lemmas.List.{get_or_past}
use Rattle.board.specs.Ranks.{rank_bound}
use Rattle.system.proofs.ranks.RankTable.of_rule.Goals as goal

pub invariant_of-result : goal.invariant_of-result
invariant_of-result g c =
    let of = c.from_fn.result in
    let rank = g.N.NestingRule.ranked c.args.rule.now in
    let each : (i : ℕ) → i < 16 → get_or of i 0 ≡ rank (record { 0 = i }) = λ i l. search rules in
    let low : (i : ℕ) → i < 16 → get_or of i 0 < rank_bound = λ i l. omega (arith, each i l, g.met.N.NestingRule.bounded c.args.rule.now (record { 0 = i })) in
    record { small = λ i. grind (arith, low, get_or_past) }
