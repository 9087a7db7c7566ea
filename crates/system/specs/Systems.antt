-- What a system holds, as the rules speak of it.
use Rattle.std.specs.Prelude.{◌≡◌, Result}
use Rattle.board.specs.declared.plan.Plan.{Plan}
use Rattle.board.specs.Plans.{Parts}
use Rattle.board.specs.Viewed.{parts}
use Rattle.kernel.specs.declared.answer.Accepted.{Accepted}
use Rattle.kernel.specs.declared.answer.CallRefusal.{CallRefusal}
use Rattle.kernel.specs.Numbers.{answer_number}
use Rattle.kernel.specs.Rules.{Outcome, Ranks}
use Rattle.kernel.specs.States as rules
use Rattle.system.specs.declared.system.System.{System}
use Rattle.system.specs.Stacked.{rank_in}
use Rattle.system.specs.Views.{view}

abbrev pub plan_of : System → Plan
plan_of s = s.plan

abbrev pub board_of : System → Parts
board_of s = parts s.plan

-- the ranks that it keeps
abbrev pub ranks_of : System → Ranks
ranks_of s = rank_in s.ranks.of

abbrev pub state_of : System → rules.State
state_of s = view s.state

-- a call was made: the state and the given answer are the outcome's, and the plan and the ranks stay
pub record Makes (before later : System) (given : Result Accepted CallRefusal) (outcome : Outcome) : Type 0 where
  pub state : state_of later ≡ outcome.0
  pub answer : answer_number given ≡ outcome.1
  pub plan : plan_of later ≡ plan_of before
  pub ranks : ranks_of later ≡ ranks_of before
