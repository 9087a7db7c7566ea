-- What the proof asks of a policy and of a nesting rule.
use Rattle.std.proofs.Common.{◌≡◌, ℕ, ◌^◌, ◌<◌, Some}
use Rattle.numbers.specs.declared.number.LineNo.{LineNo}
use Rattle.numbers.specs.declared.number.TaskNo.{TaskNo}
use Rattle.policy.specs.Policies.{OnlyFrom}
use Rattle.kernel.specs.Rules.{Chooses, Ranks}

-- what a policy owes, of its meaning
pub record KeepsPolicy (choose : Chooses) : Type 0 where
  pub member : (s : ℕ) (c : TaskNo) → s < 2 ^ 16 → OnlyFrom s (choose s c)
  pub settles : (s : ℕ) (c t : TaskNo) → s < 2 ^ 16 → choose s c ≡ Some t → choose s t ≡ Some t

-- some bound of the ranks; which one doesn't matter
pub record KeepsRanks (rank : Ranks) : Type 0 where
  pub bound : ℕ
  pub bounded : (i : LineNo) → rank i < bound
