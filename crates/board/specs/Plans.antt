-- What a plan says, and when tables are a plan.
use Rattle.std.specs.Prelude.{◌≡◌, ℕ, ◌+◌, ◌-◌, ◌^◌, ◌≤◌, Bool, ◌&&◌, List, [], ◌∷◌, ◌++◌, length, replicate, Option, Result, nat_le, nat_lt}
use Rattle.numbers.specs.declared.number.TaskNo.{TaskNo}
use Rattle.numbers.specs.declared.set.Set.{Set}
use Rattle.board.specs.declared.refusal.PlanRefusal.{PlanRefusal}
use Rattle.board.specs.declared.refusal.PlanRefusal.TheVariants.{TaskCount, LineCount, EventCount, PolicyNumber, RuleNumber, StartSet, FavouredSet, WakeSet}
use Rattle.board.specs.Refusing.{needs, first, unless}

-- The parts of a plan. A list has one entry for each task, line or event, so that its length is their count.
pub record Parts : Type 0 where
  pub policy : ℕ
  pub rule : ℕ
  pub start : ℕ
  pub favoured : ℕ
  pub priorities : List ℕ
  pub levels : List ℕ
  pub wakes : List ℕ

-- the tests of the counts: 1 to 16 tasks, at most 16 lines, at most 16 events
abbrev pub count_tests : ℕ → ℕ → ℕ → List (Option PlanRefusal)
count_tests tasks lines events =
    needs (nat_le 1 tasks && nat_le tasks 16) TaskCount ∷ needs (nat_le lines 16) LineCount ∷ needs (nat_le events 16) EventCount ∷ []

-- the tests of the policy's and the nesting rule's numbers: 1 to 3
abbrev pub number_tests : ℕ → ℕ → List (Option PlanRefusal)
number_tests policy rule =
    needs (nat_le 1 policy && nat_le policy 3) PolicyNumber ∷ needs (nat_le 1 rule && nat_le rule 3) RuleNumber ∷ []

-- a set of bits holds no task that the plan lacks
abbrev pub within : ℕ → ℕ → Bool
within set tasks = nat_lt set (2 ^ tasks)

-- the tests of the wake sets, from an event on
abbrev pub wake_tests : ℕ → ℕ → ℕ → List ℕ → List (Option PlanRefusal)
wake_tests tasks lines event [] = []
wake_tests tasks lines event (w ∷ ws) =
    needs (within w tasks) (WakeSet tasks lines (record { 0 = event })) ∷ wake_tests tasks lines (event + 1) ws

-- the tests of all sets
abbrev pub set_tests : Parts → List (Option PlanRefusal)
set_tests p =
    needs (within p.start (length p.priorities)) StartSet
    ∷ needs (within p.favoured (length p.priorities)) FavouredSet
    ∷ wake_tests (length p.priorities) (length p.levels) 0 p.wakes

-- all tests of a plan's parts, in their order
abbrev pub plan_tests : Parts → List (Option PlanRefusal)
plan_tests p =
    count_tests (length p.priorities) (length p.levels) (length p.wakes)
    ++ (number_tests p.policy p.rule ++ set_tests p)

-- the plan with these parts, or the first refusal
abbrev pub planned : Parts → Result Parts PlanRefusal
planned p = unless (first (plan_tests p)) p

abbrev pub bits_of : Set TaskNo → ℕ
bits_of s = s.bits

-- sixteen places, the entries first and z after them
abbrev pub padded : {A : Type 0} → A → List A → List A
padded z xs = xs ++ replicate (16 - length xs) z

-- sixteen places that hold these entries, as many as counted, and zeros after them
pub record Filled (count : ℕ) (entries places : List ℕ) : Type 0 where
  pub few : count ≤ 16
  pub counted : length entries ≡ count
  pub zeros_after : padded 0 entries ≡ places
