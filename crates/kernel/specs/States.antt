-- The state of a board.
use Rattle.std.specs.Prelude.{ℕ, ◌-◌, ◌^◌, Bool, true, false, List, [], ◌∷◌, length, replicate, None, Option, slice_index_or, slice_set}
use Rattle.numbers.specs.declared.number.LineNo.{LineNo}
use Rattle.numbers.specs.declared.number.TaskNo.{TaskNo}
use Rattle.board.specs.Plans.{Parts}
use Rattle.kernel.specs.declared.place.LinePlace.{LinePlace}
use Rattle.kernel.specs.declared.place.LinePlace.TheVariants.{Idle}
use Rattle.kernel.specs.declared.place.SchedulerPlace.{SchedulerPlace}
use Rattle.kernel.specs.declared.place.SchedulerPlace.TheVariants.{Copying}
use Rattle.kernel.specs.declared.place.TaskPlace.{TaskPlace}
use Rattle.kernel.specs.declared.place.TaskPlace.TheVariants.{Application}
use Rattle.kernel.specs.declared.routine.Routine.{Routine}
use Rattle.kernel.specs.declared.routine.Routine.TheVariants.{Delayed, Task}

-- a task's record: its place, whether the delayed scheduler is to be enabled when the task goes on, and the set that
-- it keeps to signal
pub record Record : Type 0 where
  pub place : TaskPlace
  pub resume : Bool
  pub kept : ℕ

-- Sets are numbers. The tables have sixteen entries; those of tasks and lines that the plan lacks are never used.
pub record State : Type 0 where
  pub enabled : ℕ
  pub pending : ℕ
  -- the delayed scheduler is enabled
  pub delayed : Bool
  -- the delayed scheduler is requested
  pub request : Bool
  pub active : Routine
  -- latest first
  pub suspended : List Routine
  pub current : TaskNo
  pub ready : ℕ
  pub posted : ℕ
  -- the scheduler's copy of the posted events, and the task that it has chosen
  pub copied : ℕ
  pub chosen : Option TaskNo
  pub tasks : List Record
  pub lines : List LinePlace
  pub scheduler : SchedulerPlace

abbrev pub with_enabled : ℕ → State → State
with_enabled v s = record s { enabled = v }

abbrev pub with_pending : ℕ → State → State
with_pending v s = record s { pending = v }

abbrev pub with_delayed : Bool → State → State
with_delayed v s = record s { delayed = v }

abbrev pub with_request : Bool → State → State
with_request v s = record s { request = v }

abbrev pub with_active : Routine → State → State
with_active v s = record s { active = v }

abbrev pub with_suspended : List Routine → State → State
with_suspended v s = record s { suspended = v }

abbrev pub with_current : TaskNo → State → State
with_current v s = record s { current = v }

abbrev pub with_ready : ℕ → State → State
with_ready v s = record s { ready = v }

abbrev pub with_posted : ℕ → State → State
with_posted v s = record s { posted = v }

abbrev pub with_copied : ℕ → State → State
with_copied v s = record s { copied = v }

abbrev pub with_chosen : Option TaskNo → State → State
with_chosen v s = record s { chosen = v }

abbrev pub with_tasks : List Record → State → State
with_tasks v s = record s { tasks = v }

abbrev pub with_lines : List LinePlace → State → State
with_lines v s = record s { lines = v }

abbrev pub with_scheduler : SchedulerPlace → State → State
with_scheduler v s = record s { scheduler = v }

-- records and places, by number

abbrev pub fresh : Record
fresh = record { place = Application; resume = true; kept = 0 }

abbrev pub task_of : State → TaskNo → Record
task_of s t = slice_index_or s.tasks t.0 fresh

abbrev pub with_task : TaskNo → Record → State → State
with_task t r s = with_tasks (slice_set s.tasks t.0 r) s

abbrev pub at_place : TaskPlace → Record → Record
at_place v r = record r { place = v }

abbrev pub at_resume : Bool → Record → Record
at_resume v r = record r { resume = v }

abbrev pub at_kept : ℕ → Record → Record
at_kept v r = record r { kept = v }

-- task t moves to a place
abbrev pub move : TaskNo → TaskPlace → State → State
move t p s = with_task t (at_place p (task_of s t)) s

abbrev pub line_place : State → LineNo → LinePlace
line_place s i = slice_index_or s.lines i.0 Idle

abbrev pub with_line : LineNo → LinePlace → State → State
with_line i p s = with_lines (slice_set s.lines i.0 p) s

-- the state at the start, with the plan's start set
abbrev pub start : Parts → State
start plan =
    record {
      enabled = 2 ^ length plan.levels - 1;
      pending = 0;
      delayed = true;
      request = false;
      active = Delayed;
      suspended = Task (record { 0 = 0 }) ∷ [];
      current = record { 0 = 0 };
      ready = plan.start;
      posted = 0;
      copied = 0;
      chosen = None;
      tasks = replicate 16 fresh;
      lines = replicate 16 Idle;
      scheduler = Copying;
    }
