-- The numbers of the policies and of the nesting rules.
use Rattle.std.specs.Prelude.{ℕ, Ok, Err, Result, ◌==◌, if◌then◌else◌}
use Rattle.board.specs.declared.kinds.PolicyKind.{PolicyKind}
use Rattle.board.specs.declared.kinds.PolicyKind.TheVariants.{Priority, Stay, Shared}
use Rattle.board.specs.declared.kinds.RankRule.{RankRule}
use Rattle.board.specs.declared.kinds.RankRule.TheVariants.{By32, By64, Flat}
use Rattle.board.specs.declared.refusal.PlanRefusal.{PlanRefusal}
use Rattle.board.specs.declared.refusal.PlanRefusal.TheVariants.{PolicyNumber, RuleNumber}

abbrev pub policy_number : PolicyKind → ℕ
policy_number Priority = 1
policy_number Stay = 2
policy_number Shared = 3

abbrev pub rule_number : RankRule → ℕ
rule_number By32 = 1
rule_number By64 = 2
rule_number Flat = 3

abbrev pub policy_from : ℕ → Result PolicyKind PlanRefusal
policy_from n = if n == 1 then Ok Priority else if n == 2 then Ok Stay else if n == 3 then Ok Shared else Err PolicyNumber

abbrev pub rule_from : ℕ → Result RankRule PlanRefusal
rule_from n = if n == 1 then Ok By32 else if n == 2 then Ok By64 else if n == 3 then Ok Flat else Err RuleNumber
