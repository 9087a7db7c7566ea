-- The numbers of routines, places and calls.
use Rattle.std.specs.Prelude.{ℕ, ◌+◌, min, Result, Ok, Err}
use Rattle.kernel.specs.declared.answer.Accepted.{Accepted}
use Rattle.kernel.specs.declared.answer.Accepted.TheVariants.{Done, New, Merged}
use Rattle.kernel.specs.declared.answer.CallRefusal.{CallRefusal}
use Rattle.kernel.specs.declared.answer.CallRefusal.TheVariants.{Unknown, NotPending, NotEnabled, AlreadyNested, NotMoreUrgent, NoRequest, DelayedOff, OtherRoutine, OtherPlace}
use Rattle.kernel.specs.declared.call.Call.{Call}
use Rattle.kernel.specs.declared.call.Call.TheVariants.{Raise, Enter, Pend, Go, Signal, Block, Post, Leave, Mask, Unmask}
use Rattle.kernel.specs.declared.place.LinePlace.{LinePlace}
use Rattle.kernel.specs.declared.place.LinePlace.TheVariants.{Idle, Handling, Posted}
use Rattle.kernel.specs.declared.place.SchedulerPlace.{SchedulerPlace}
use Rattle.kernel.specs.declared.place.SchedulerPlace.TheVariants.{Copying, Waking, Clearing, Choosing, Noting, Switching, Loading, Returning}
use Rattle.kernel.specs.declared.place.TaskPlace.{TaskPlace}
use Rattle.kernel.specs.declared.place.TaskPlace.TheVariants.{Application, Adding, Requesting, Opening, Waiting, Blocking, Yielding}
use Rattle.kernel.specs.declared.routine.Routine.{Routine}
use Rattle.kernel.specs.declared.routine.Routine.TheVariants.{Direct, Delayed, Task, Handler}

-- a routine's number, in a byte
abbrev pub routine_number : Routine → ℕ
routine_number Direct = 0
routine_number Delayed = 1
routine_number (Task t) = min 255 (2 + t.0)
routine_number (Handler i) = min 255 (18 + i.0)

abbrev pub task_place_number : TaskPlace → ℕ
task_place_number Application = 0
task_place_number Adding = 1
task_place_number Requesting = 2
task_place_number Opening = 3
task_place_number Waiting = 4
task_place_number Blocking = 5
task_place_number Yielding = 6

abbrev pub scheduler_place_number : SchedulerPlace → ℕ
scheduler_place_number Copying = 0
scheduler_place_number Waking = 1
scheduler_place_number Clearing = 2
scheduler_place_number Choosing = 3
scheduler_place_number Noting = 4
scheduler_place_number Switching = 5
scheduler_place_number Loading = 6
scheduler_place_number Returning = 7

abbrev pub line_place_number : LinePlace → ℕ
line_place_number Idle = 0
line_place_number Handling = 1
line_place_number Posted = 2

abbrev pub call_number : Call → ℕ
call_number (Raise i) = 1
call_number (Enter i) = 2
call_number Pend = 3
call_number Go = 4
call_number (Signal set) = 5
call_number Block = 6
call_number (Post e) = 7
call_number Leave = 8
call_number (Mask i) = 9
call_number (Unmask i) = 10

abbrev pub accepted_number : Accepted → ℕ
accepted_number Done = 0
accepted_number New = 100
accepted_number Merged = 101

abbrev pub call_refusal_number : CallRefusal → ℕ
call_refusal_number Unknown = 11
call_refusal_number NotPending = 12
call_refusal_number NotEnabled = 13
call_refusal_number AlreadyNested = 14
call_refusal_number NotMoreUrgent = 15
call_refusal_number NoRequest = 16
call_refusal_number DelayedOff = 17
call_refusal_number OtherRoutine = 18
call_refusal_number OtherPlace = 19

abbrev pub answer_number : Result Accepted CallRefusal → ℕ
answer_number (Ok accepted) = accepted_number accepted
answer_number (Err refusal) = call_refusal_number refusal
