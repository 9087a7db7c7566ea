-- What the policy that a plan names chooses.
use Rattle.std.specs.Prelude.{ℕ, List, Option, ◌==◌, if◌then◌else◌}
use Rattle.numbers.specs.declared.number.TaskNo.{TaskNo}
use Rattle.board.specs.declared.kinds.PolicyKind.{PolicyKind}
use Rattle.board.specs.declared.kinds.PolicyKind.TheVariants.{Priority, Stay, Shared}
use Rattle.board.specs.Plans.{Parts, padded}
use Rattle.policy.specs.Policies.{favour, stay}
use Rattle.policy.specs.Priorities.{by_priority, share}

abbrev pub chosen_by : PolicyKind → List ℕ → ℕ → TaskNo → Option TaskNo
chosen_by Priority ps s c = by_priority ps s
chosen_by Stay ps s c = stay s c
chosen_by Shared ps s c = share ps s c

-- the same by the policy's number: 1 priority, 2 stay, 3 shared
abbrev pub chosen_numbered : ℕ → List ℕ → ℕ → TaskNo → Option TaskNo
chosen_numbered policy ps s c = if policy == 1 then by_priority ps s else if policy == 2 then stay s c else share ps s c

-- what a plan's policy chooses, under its favoured group; a task that the plan lacks has priority 0
abbrev pub plan_choice : Parts → ℕ → TaskNo → Option TaskNo
plan_choice p s c = favour (chosen_numbered p.policy (padded 0 p.priorities)) p.favoured s c
