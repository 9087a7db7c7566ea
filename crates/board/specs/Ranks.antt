-- The rank of a line: 0 is the most urgent.
use Rattle.std.specs.Prelude.{ℕ, ◌/◌, List, ◌==◌, if◌then◌else◌, slice_index}
use Rattle.numbers.specs.declared.number.LineNo.{LineNo}
use Rattle.board.specs.declared.kinds.RankRule.{RankRule}
use Rattle.board.specs.declared.kinds.RankRule.TheVariants.{By32, By64, Flat}
use Rattle.board.specs.Plans.{Parts}

-- every rank is below this
abbrev pub rank_bound : ℕ
rank_bound = 8

-- the rank that a rule gives to a level
abbrev pub rank_at : RankRule → ℕ → ℕ
rank_at By32 level = level / 32
rank_at By64 level = level / 64
rank_at Flat level = 0

-- the rank of a line by the list of levels; a line past its end counts as level 0
abbrev pub rank_by : RankRule → List ℕ → LineNo → ℕ
rank_by rule levels line = rank_at rule (slice_index levels line.0)

-- the same by the rule's number: 1 divides by 32, 2 by 64, 3 gives rank 0
abbrev pub rank_numbered : ℕ → ℕ → ℕ
rank_numbered rule level = if rule == 1 then level / 32 else if rule == 2 then level / 64 else 0

-- the rank of a line of a plan; a line that the plan lacks counts as level 0
abbrev pub plan_rank : Parts → LineNo → ℕ
plan_rank p line = rank_numbered p.rule (slice_index p.levels line.0)
