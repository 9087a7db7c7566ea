-- The ranks that a plan's nesting rule gives.
use Rattle.std.proofs.Common.{◌≡◌, ℕ, List, get_or, refl, ap, ◌∙◌}
use mathlib.Core.Path.{fun_ext}
use Rattle.numbers.specs.declared.number.LineNo.{LineNo}
use Rattle.board.specs.declared.kinds.RankRule.{RankRule}
use Rattle.board.specs.declared.kinds.RankRule.TheVariants.{By32, By64, Flat}
use Rattle.board.specs.Kinds.{rule_number}
use Rattle.board.specs.Plans.{Parts, padded}
use Rattle.board.specs.Ranks.{plan_rank, rank_at, rank_by, rank_numbered}
use Rattle.board.proofs.Padding.{get_or_padded}

by_number : (rule : RankRule) (level : ℕ) → rank_at rule level ≡ rank_numbered (rule_number rule) level
by_number By32 level = refl
by_number By64 level = refl
by_number Flat level = refl

pub plan_ranked :
    (p : Parts) (rule : RankRule) (levels : List ℕ) → rule_number rule ≡ p.rule → levels ≡ padded 0 p.levels →
    rank_by rule levels ≡ plan_rank p
plan_ranked p rule levels is all =
    fun_ext (λ (i : LineNo).
    by_number rule (get_or levels i.0 0)
    ∙ (ap (λ n. rank_numbered n (get_or levels i.0 0)) is
    ∙ ap (rank_numbered p.rule) (ap (λ (v : List ℕ). get_or v i.0 0) all ∙ get_or_padded p.levels _ i.0)))
