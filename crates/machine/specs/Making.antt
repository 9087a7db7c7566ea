-- What a machine's calls make of it.
use Rattle.std.specs.Prelude.{◌≡◌, ℕ, List, ◌++◌, length, drop}
use Rattle.kernel.specs.declared.call.Call.{Call}
use Rattle.kernel.specs.Histories.{Follows, answers, state_after}
use Rattle.kernel.specs.Rules.{Chooses}
use Rattle.machine.specs.declared.machine.Machine.{Machine}
use Rattle.machine.specs.Machines.{board_of, plan_of, policy_of, ranks_of, state_of}

-- A call was made: the state and the two numbers are those of the rules, and the plan, the policy and the ranks stay.
pub record Makes {P : Type 0} (chosen : P → Chooses) (call : Call) (before later : Machine P) (numbers : ℕ × ℕ) : Type 0 where
  pub follows : Follows (board_of before) (chosen (policy_of before)) (ranks_of before) call (state_of before) (state_of later) numbers
  pub plan : plan_of later ≡ plan_of before
  pub policy : policy_of later ≡ policy_of before
  pub ranks : ranks_of later ≡ ranks_of before

-- A list of calls was made: the state is that of the rules, each call's two numbers stand first in the row and its later
-- entries stay, and so do the plan, the policy and the ranks.
pub record MakesAll {P : Type 0} (chosen : P → Chooses) (calls : List Call) (before later : Machine P) (row_before row_later : List (ℕ × ℕ)) : Type 0 where
  pub state : state_of later ≡ state_after (board_of before) (chosen (policy_of before)) (ranks_of before) calls (state_of before)
  pub out : row_later ≡ answers (board_of before) (chosen (policy_of before)) (ranks_of before) calls (state_of before) ++ drop (length calls) row_before
  pub plan : plan_of later ≡ plan_of before
  pub policy : policy_of later ≡ policy_of before
  pub ranks : ranks_of later ≡ ranks_of before
