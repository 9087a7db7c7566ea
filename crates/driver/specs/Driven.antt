-- What driving a plan followed by a run answers, and what it leaves in the buffer.
use Rattle.std.specs.Prelude.{ℕ, ◌*◌, cond, List, [], ◌∷◌, ◌++◌, length, drop, Ok, Err, Result, nat_lt}
use Rattle.board.specs.Planned.{plan_choice}
use Rattle.board.specs.Plans.{Parts}
use Rattle.board.specs.Ranks.{plan_rank}
use Rattle.formats.specs.declared.fault.PlanFault.{PlanFault}
use Rattle.formats.specs.Decode.{decode}
use Rattle.kernel.specs.declared.call.Call.{Call}
use Rattle.kernel.specs.Afterwards.{SoundHistory}
use Rattle.kernel.specs.Histories.{after, answers, told}
use Rattle.kernel.specs.Rules.{Chooses, Ranks}
use Rattle.kernel.specs.States.{start}
use Rattle.runs.specs.declared.fault.RunFault.{RunFault}
use Rattle.runs.specs.Runs.{decode_run}
use Rattle.driver.specs.declared.fault.DriveFault.{DriveFault}
use Rattle.driver.specs.declared.fault.DriveFault.TheVariants.{Plan, Run, Buffer}

-- two bytes for each call: its two numbers

abbrev pub flat : List (ℕ × ℕ) → List ℕ
flat [] = []
flat (n ∷ row) = n.0 ∷ n.1 ∷ flat row

abbrev pub pairs : List ℕ → List (ℕ × ℕ)
pairs [] = []
pairs (a ∷ []) = []
pairs (a ∷ n ∷ bs) = (a, n) ∷ pairs bs

-- under a policy's and a nesting rule's meaning
module _ (p : Parts) (choose : Chooses) (rank : Ranks) where
  -- the number of calls, and the buffer with two bytes for each; or the buffer is too short
  abbrev pub answered : List Call → List ℕ → Result (ℕ × List ℕ) DriveFault
  answered calls out =
      cond (nat_lt (length out) (2 * length calls)) (Err (Buffer (length out)))
      (Ok (length calls, flat (answers p choose rank calls (start p)) ++ drop (2 * length calls) out))

  abbrev pub run_answered : Result (List Call) RunFault → List ℕ → Result (ℕ × List ℕ) DriveFault
  run_answered (Ok calls) out = answered calls out
  run_answered (Err fault) out = Err (Run fault)

  -- what holds after every list of calls, of these calls and of the answers in the buffer
  abbrev pub SoundRun : List Call → List ℕ → Type 0
  SoundRun calls out = SoundHistory p choose rank (record { state = (after p choose rank calls).state; past = told calls (pairs out) [] })

-- a plan, followed directly by a run; the plan's policy under its favoured group, and its nesting rule
abbrev pub plan_answered : Result (Parts × List ℕ) PlanFault → List ℕ → Result (ℕ × List ℕ) DriveFault
plan_answered (Ok plan) out = run_answered plan.0 (plan_choice plan.0) (plan_rank plan.0) (decode_run plan.1) out
plan_answered (Err fault) out = Err (Plan fault)

abbrev pub driven : List ℕ → List ℕ → Result (ℕ × List ℕ) DriveFault
driven bs out = plan_answered (decode bs) out

-- an answer with the buffer that it leaves
abbrev pub left : Result ℕ DriveFault → List ℕ → Result (ℕ × List ℕ) DriveFault
left (Ok n) out = Ok (n, out)
left (Err fault) out = Err fault
