-- The policy that a plan names keeps what a policy owes.
use Rattle.std.specs.Prelude.{◌≡◌, ℕ, ◌^◌, ◌<◌, List, Some}
use Rattle.board.specs.declared.kinds.PolicyKind.{PolicyKind}
use Rattle.board.specs.declared.kinds.PolicyKind.TheVariants.{Priority, Stay, Shared}
use Rattle.numbers.specs.declared.number.TaskNo.{TaskNo}
use Rattle.board.specs.declared.choosing.PlanPolicy.{PlanPolicy}
use Rattle.board.specs.Planned.{chosen_by}
use Rattle.policy.specs.Priorities.{leaders}
use Rattle.policy.specs.Leading.{share_answers}
use Rattle.policy.specs.Staying.{Answered, stay_answers, stay_settles}

pub answers : (k : PolicyKind) (p : PlanPolicy) (s : ℕ) (c : TaskNo) → s < 2 ^ 16 → Answered s (chosen_by k p.priorities.of s c)
answers Priority p s c small = share_answers p.priorities.of s small (record { 0 = 0 })
answers Stay p s c small = stay_answers s c small
answers Shared p s c small = share_answers p.priorities.of s small c

pub settles : (k : PolicyKind) (ps : List ℕ) (s : ℕ) (c t : TaskNo) → chosen_by k ps s c ≡ Some t → chosen_by k ps s t ≡ Some t
settles Priority ps s c t e = e
settles Stay ps s c t e = stay_settles s c t e
settles Shared ps s c t e = stay_settles (leaders ps s) c t e
