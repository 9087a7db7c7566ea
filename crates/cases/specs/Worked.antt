-- The worked cases of the rules, as one list.
use Rattle.std.specs.Prelude.{◌≡◌, ℕ, List, [], ◌∷◌, map, length, take, Some, Ok, Err, Option, Result}
use Rattle.numbers.specs.declared.number.TaskNo.{TaskNo}
use Rattle.policy.specs.Policies.{favour, stay}
use Rattle.policy.specs.Priorities.{by_priority, share}
use Rattle.board.specs.Figure.{figure_of}
use Rattle.board.specs.Plans.{Parts}
use Rattle.board.specs.Ranks.{plan_rank}
use Rattle.formats.specs.declared.fault.PlanFault.{PlanFault}
use Rattle.formats.specs.Decode.{decode}
use Rattle.formats.specs.Faults.{plan_refusal}

-- a question
pub data Question : Type 0 where
  -- the rank of a level under a rule
  rank : (rule level : ℕ) → Question
  -- the figure of some levels under a rule
  figure : (rule : ℕ) (levels : List ℕ) → Question
  -- what policies 1, 2 and 3 choose from a set, with a current task
  priority : (priorities : List ℕ) (ready current : ℕ) → Question
  stays : (ready current : ℕ) → Question
  shared : (priorities : List ℕ) (ready current : ℕ) → Question
  -- what a favoured group over policy 1 chooses
  favoured : (group : ℕ) (priorities : List ℕ) (ready current : ℕ) → Question
  -- what some bytes read as
  reads : (bytes : List ℕ) → Question

-- an answer
pub data Answer : Type 0 where
  number : ℕ → Answer
  chosen : Option TaskNo → Answer
  plan : Parts → (rest : List ℕ) → Answer
  refused : (fault place : ℕ) → Answer

abbrev task : ℕ → TaskNo
task n = record { 0 = n }

-- a plan with one task, these levels and this rule
abbrev lines_only : ℕ → List ℕ → Parts
lines_only rule levels =
    record { policy = 1; rule = rule; start = 0; favoured = 0; priorities = 0 ∷ []; levels = levels; wakes = [] }

abbrev of_reading : Result (Parts × List ℕ) PlanFault → Answer
of_reading (Ok reading) = plan reading.0 reading.1
of_reading (Err fault) = refused (plan_refusal fault).number (plan_refusal fault).place

-- what the rules answer
abbrev pub by_the_rules : Question → Answer
by_the_rules (rank rule level) = number (plan_rank (lines_only rule (level ∷ [])) (record { 0 = 0 }))
by_the_rules (figure rule levels) = number (figure_of (plan_rank (lines_only rule levels)) (length levels))
by_the_rules (priority ps ready current) = chosen (by_priority ps ready)
by_the_rules (stays ready current) = chosen (stay ready (task current))
by_the_rules (shared ps ready current) = chosen (share ps ready (task current))
by_the_rules (favoured group ps ready current) = chosen (favour (λ s _. by_priority ps s) group ready (task current))
by_the_rules (reads bytes) = of_reading (decode bytes)

-- the plan of the worked board, with its lowest start byte
abbrev board : ℕ → List ℕ
board start = 80 ∷ 76 ∷ 78 ∷ 1 ∷ 0 ∷ 2 ∷ 1 ∷ 1 ∷ 1 ∷ 1 ∷ start ∷ 0 ∷ 0 ∷ 0 ∷ 10 ∷ 20 ∷ 64 ∷ 2 ∷ 0 ∷ []

abbrev board_parts : Parts
board_parts =
    record {
      policy = 1;
      rule = 1;
      start = 1;
      favoured = 0;
      priorities = 10 ∷ 20 ∷ [];
      levels = 64 ∷ [];
      wakes = 2 ∷ [];
    }

abbrev three : List ℕ
three = 32 ∷ 64 ∷ 96 ∷ []

abbrev ranked : List ℕ
ranked = 5 ∷ 9 ∷ 9 ∷ []

-- {0, 1, 2} is 7, {1, 2} is 6, {0} is 1
abbrev pub cases : List (Question × Answer)
cases =
    (rank 1 31, number 0)
    ∷ (rank 1 32, number 1)
    ∷ (figure 1 three, number 4)
    ∷ (figure 2 three, number 3)
    ∷ (figure 3 three, number 2)
    ∷ (figure 1 [], number 1)
    ∷ (priority ranked 7 2, chosen (Some (task 1)))
    ∷ (stays 7 2, chosen (Some (task 2)))
    ∷ (shared ranked 7 2, chosen (Some (task 2)))
    ∷ (favoured 1 ranked 7 2, chosen (Some (task 0)))
    ∷ (favoured 1 ranked 6 2, chosen (Some (task 1)))
    ∷ (reads (board 1), plan board_parts [])
    ∷ (reads (take 18 (board 1)), refused 1 18)
    ∷ (reads (board 4), refused 6 10)
    ∷ []

abbrev asked : List Answer
asked = map (λ (c : Question × Answer). by_the_rules c.0) cases

abbrev wanted : List Answer
wanted = map (λ (c : Question × Answer). c.1) cases

-- each case follows from the rules
abbrev pub WorkedCasesFollow : Type 0
WorkedCasesFollow = asked ≡ wanted
