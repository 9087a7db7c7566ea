-- The machine's state, as the rules speak of it.
use Rattle.std.specs.Prelude.{ℕ, ◌<◌, true, false}
use Rattle.board.specs.Plans.{Parts}
use Rattle.kernel.specs.declared.routine.Routine.{Routine}
use Rattle.kernel.specs.declared.routine.Routine.TheVariants as routine
use Rattle.kernel.specs.States as rules
use Rattle.kernel.specs.Rules.{Chooses, Outcome, go_handler, go_scheduler, go_task}
use Rattle.system.specs.declared.state.State.{State}
use Rattle.system.specs.declared.state.Standing.{Standing}
use Rattle.system.specs.declared.state.Standing.TheVariants.{Direct, Delayed, Task, Handler}
use Rattle.system.specs.Listed.{listed}
use Rattle.system.specs.Tables.{noted_all}

abbrev pub view : State → rules.State
view s =
    record {
      enabled = s.enabled.bits;
      pending = s.pending.bits;
      delayed = s.delayed;
      request = s.request;
      active = s.active;
      suspended = listed s.suspended;
      current = s.current;
      ready = s.ready.bits;
      posted = s.posted.bits;
      copied = s.copied.bits;
      chosen = s.chosen;
      tasks = noted_all s.tasks.records;
      lines = s.lines.places;
      scheduler = s.scheduler;
    }

-- the active routine with its place

abbrev pub stands : Routine → rules.State → Standing
stands routine.Direct s = Direct s.scheduler
stands routine.Delayed s = Delayed s.scheduler
stands (routine.Task t) s = Task t (rules.task_of s t).place
stands (routine.Handler i) s = Handler i (rules.line_place s i)

abbrev pub standing : rules.State → Standing
standing s = stands s.active s

-- the next step of a routine at a place
abbrev pub go_at : Parts → Chooses → Standing → rules.State → Outcome
go_at plan choose (Direct p) s = go_scheduler plan choose false p s
go_at plan choose (Delayed p) s = go_scheduler plan choose true p s
go_at plan choose (Task t p) s = go_task t p s
go_at plan choose (Handler i p) s = go_handler i p s

-- of the nine slots one is free if the next step may suspend a task
abbrev pub Room : Standing → ℕ → Type 0
Room (Direct p) n = Unit {0}
Room (Delayed p) n = Unit {0}
Room (Task t p) n = n < 9
Room (Handler i p) n = Unit {0}
