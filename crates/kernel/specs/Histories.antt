-- Lists of calls, applied from the start.
use Rattle.std.specs.Prelude.{◌≡◌, ℕ, List, [], ◌∷◌, ◌++◌}
use Rattle.board.specs.Plans.{Parts}
use Rattle.kernel.specs.declared.call.Call.{Call}
use Rattle.kernel.specs.States.{State, start}
use Rattle.kernel.specs.Rules.{Chooses, Ranks, apply, numbers}

-- a call with its answer
pub record Answered : Type 0 where
  pub call : Call
  pub answer : ℕ

-- where calls have led, with the calls and their answers, the latest first
pub record History : Type 0 where
  pub state : State
  pub past : List Answered

unfoldable pub step : Parts → Chooses → Ranks → Call → History → History
step plan choose rank c h =
    let outcome = apply plan choose rank c h.state in
    record { state = outcome.0; past = record { call = c; answer = outcome.1 } ∷ h.past }

unfoldable pub run : Parts → Chooses → Ranks → List Call → History → History
run plan choose rank [] h = h
run plan choose rank (c ∷ calls) h = run plan choose rank calls (step plan choose rank c h)

-- the history of a list of calls
abbrev pub after : Parts → Chooses → Ranks → List Call → History
after plan choose rank calls = run plan choose rank calls (record { state = start plan; past = [] })

-- a list of calls leads to a state
abbrev pub Leads : Parts → Chooses → Ranks → List Call → State → Type 0
Leads plan choose rank calls s = (after plan choose rank calls).state ≡ s

-- a state with the calls and answers of a list
abbrev pub history : Parts → Chooses → Ranks → List Call → State → History
history plan choose rank calls s = record { state = s; past = (after plan choose rank calls).past }

-- calls with the answers of a row, the latest first, before a past
abbrev pub told : List Call → List (ℕ × ℕ) → List Answered → List Answered
told [] row past = past
told (c ∷ calls) [] past = past
told (c ∷ calls) (n ∷ row) past = told calls row (record { call = c; answer = n.0 } ∷ past)

-- What a call owes: the state and the two numbers that the rules give, and whatever list led to the state before,
-- that list with this call leads to the state after.
pub record Follows (plan : Parts) (choose : Chooses) (rank : Ranks) (c : Call) (before later : State) (answered : ℕ × ℕ) : Type 0 where
  pub state : later ≡ (apply plan choose rank c before).0
  pub numbers : answered ≡ numbers (apply plan choose rank c before)
  pub leads : (calls : List Call) → Leads plan choose rank calls before → Leads plan choose rank (calls ++ (c ∷ [])) later

-- From any state: the state that a list leads to, and the two numbers of each of its calls. From the start this is the
-- state of `after`, and the first numbers are its answers.

unfoldable pub state_after : Parts → Chooses → Ranks → List Call → State → State
state_after plan choose rank [] s = s
state_after plan choose rank (c ∷ calls) s = state_after plan choose rank calls (apply plan choose rank c s).0

unfoldable pub answers : Parts → Chooses → Ranks → List Call → State → List (ℕ × ℕ)
answers plan choose rank [] s = []
answers plan choose rank (c ∷ calls) s = numbers (apply plan choose rank c s) ∷ answers plan choose rank calls (apply plan choose rank c s).0
