-- The rules of the ten calls: what each leads to, and its answer.
-- A test that fails refuses with its number and changes nothing; the tests stand in their order.
use Rattle.std.specs.Prelude.{ℕ, zero, suc, ◌^◌, Bool, true, false, cond, not, ◌&&◌, ◌||◌, List, [], ◌∷◌, length, Some, None, Option, ◌==◌, bit_or, nat_lt, slice_index}
use Rattle.numbers.specs.declared.number.EventNo.{EventNo}
use Rattle.numbers.specs.declared.number.LineNo.{LineNo}
use Rattle.numbers.specs.declared.number.TaskNo.{TaskNo}
use Rattle.numbers.specs.Sets.{has, minus, with_member}
use Rattle.board.specs.Plans.{Parts, within}
use Rattle.kernel.specs.declared.call.Call.{Call}
use Rattle.kernel.specs.declared.call.Call.TheVariants.{Raise, Enter, Pend, Go, Signal, Block, Post, Leave, Mask, Unmask}
use Rattle.kernel.specs.declared.place.LinePlace.{LinePlace}
use Rattle.kernel.specs.declared.place.LinePlace.TheVariants.{Idle, Handling, Posted}
use Rattle.kernel.specs.declared.place.SchedulerPlace.{SchedulerPlace}
use Rattle.kernel.specs.declared.place.SchedulerPlace.TheVariants.{Copying, Waking, Clearing, Choosing, Noting, Switching, Loading, Returning}
use Rattle.kernel.specs.declared.place.TaskPlace.{TaskPlace}
use Rattle.kernel.specs.declared.place.TaskPlace.TheVariants.{Application, Adding, Requesting, Opening, Waiting, Blocking, Yielding}
use Rattle.kernel.specs.declared.routine.Routine.{Routine}
use Rattle.kernel.specs.declared.routine.Routine.TheVariants.{Direct, Delayed, Task, Handler}
use Rattle.kernel.specs.Numbers.{routine_number}
use Rattle.kernel.specs.States.{State, with_enabled, with_pending, with_delayed, with_request, with_active, with_suspended, with_current, with_ready, with_posted, with_copied, with_chosen, with_scheduler, task_of, with_task, at_place, at_resume, at_kept, move, line_place, with_line}

-- the meaning of a policy: the ready tasks and the current task to the chosen task
abbrev pub Chooses : Type 0
Chooses = ℕ → TaskNo → Option TaskNo

-- the meaning of a nesting rule
abbrev pub Ranks : Type 0
Ranks = LineNo → ℕ

-- the counts of a plan
abbrev pub tasks : Parts → ℕ
tasks plan = length plan.priorities

abbrev pub lines : Parts → ℕ
lines plan = length plan.levels

abbrev pub events : Parts → ℕ
events plan = length plan.wakes

-- the tasks in the wake sets of those of the first n events that are in a set
unfoldable pub woken_below : ℕ → List ℕ → ℕ → ℕ
woken_below zero wakes set = 0
woken_below (suc n) wakes set = cond (has set n) (bit_or (woken_below n wakes set) (slice_index wakes n)) (woken_below n wakes set)

-- the tasks that a set of events wakes
abbrev pub woken : List ℕ → ℕ → ℕ
woken wakes set = woken_below (length wakes) wakes set

-- what is asked of a routine

abbrev pub is_task : Routine → Bool
is_task Direct = false
is_task Delayed = false
is_task (Task t) = true
is_task (Handler i) = false

abbrev pub handles : LineNo → Routine → Bool
handles i Direct = false
handles i Delayed = false
handles i (Task t) = false
handles i (Handler j) = i.0 == j.0

-- the line's handler is active or suspended
abbrev pub nested : LineNo → List Routine → Bool
nested i [] = false
nested i (r ∷ rs) = handles i r || nested i rs

-- the line may interrupt the routine: a handler gives way to a strictly lower rank only
abbrev pub gives_way : Ranks → LineNo → Routine → Bool
gives_way rank i Direct = true
gives_way rank i Delayed = true
gives_way rank i (Task t) = true
gives_way rank i (Handler j) = nat_lt (rank i) (rank j)

abbrev pub in_application : TaskPlace → Bool
in_application Application = true
in_application Adding = false
in_application Requesting = false
in_application Opening = false
in_application Waiting = false
in_application Blocking = false
in_application Yielding = false

abbrev pub in_handler : LinePlace → Bool
in_handler Idle = false
in_handler Handling = true
in_handler Posted = false

-- an outcome: the state that follows, and the answer
abbrev pub Outcome : Type 0
Outcome = State × ℕ

-- the two numbers of a call: its answer, and the routine then active
abbrev pub numbers : Outcome → ℕ × ℕ
numbers outcome = (outcome.1, routine_number outcome.0.active)

-- refused with n unless the test passes
abbrev pub provided : Bool → ℕ → State → Outcome → Outcome
provided true n s outcome = outcome
provided false n s outcome = (s, n)

-- the delayed scheduler becomes active
abbrev pub start_delayed : State → State
start_delayed s = with_active Delayed (with_request false (with_scheduler Copying s))

-- To return: to the latest suspended routine, or to the delayed scheduler if it is requested and enabled over a task.
-- There is always a suspended routine to return to.
abbrev pub return_to : List Routine → State → State
return_to [] s = s
return_to (r ∷ rest) s =
    cond (is_task r && (s.request && s.delayed)) (start_delayed s) (with_active r (with_suspended rest s))

abbrev pub return : State → State
return s = return_to s.suspended s

-- go, by the active routine and its place

abbrev pub go_task : TaskNo → TaskPlace → State → Outcome
go_task t Application s = (s, 19)
go_task t Adding s = (with_ready (bit_or s.ready (task_of s t).kept) (move t Requesting s), 0)
go_task t Requesting s = (with_request true (move t Opening s), 0)
go_task t Opening s = (with_delayed true (move t Waiting s), 0)
go_task t Waiting s = (cond s.request s (move t Application s), 0)
go_task t Blocking s = (with_ready (minus s.ready (2 ^ t.0)) (move t Yielding s), 0)
go_task t Yielding s =
    (with_active Direct (with_suspended (Task t ∷ s.suspended) (with_scheduler Copying (move t Opening s))), 0)

-- with none chosen the scheduler begins anew
abbrev pub decide : Option TaskNo → State → State
decide None s = with_scheduler Copying s
decide (Some t) s = with_chosen (Some t) (with_scheduler Noting s)

abbrev pub rest : List Routine → List Routine
rest [] = []
rest (r ∷ rs) = rs

-- the chosen task becomes current and replaces the suspended one; at this place there is always one
abbrev pub switch : Option TaskNo → State → State
switch None s = s
switch (Some t) s = with_current t (with_suspended (Task t ∷ rest s.suspended) s)

-- the flag says whether it is the delayed scheduler
abbrev pub go_scheduler : Parts → Chooses → Bool → SchedulerPlace → State → Outcome
go_scheduler plan choose d Copying s = (with_copied s.posted (with_scheduler Waking s), 0)
go_scheduler plan choose d Waking s = (with_ready (bit_or s.ready (woken plan.wakes s.copied)) (with_scheduler Clearing s), 0)
go_scheduler plan choose d Clearing s = (with_posted (minus s.posted s.copied) (with_scheduler Choosing s), 0)
go_scheduler plan choose d Choosing s = (decide (choose s.ready s.current) s, 0)
go_scheduler plan choose d Noting s = (with_task s.current (at_resume d (task_of s s.current)) (with_scheduler Switching s), 0)
go_scheduler plan choose d Switching s = (switch s.chosen (with_scheduler Loading s), 0)
go_scheduler plan choose d Loading s = (with_delayed (task_of s s.current).resume (with_scheduler Returning s), 0)
go_scheduler plan choose d Returning s = (return s, 0)

-- an active handler's line is never idle
abbrev pub go_handler : LineNo → LinePlace → State → Outcome
go_handler i Idle s = (s, 19)
go_handler i Handling s = (s, 19)
go_handler i Posted s = (with_request true (with_line i Handling s), 0)

abbrev pub go_by : Parts → Chooses → Routine → State → Outcome
go_by plan choose Direct s = go_scheduler plan choose false s.scheduler s
go_by plan choose Delayed s = go_scheduler plan choose true s.scheduler s
go_by plan choose (Task t) s = go_task t (task_of s t).place s
go_by plan choose (Handler i) s = go_handler i (line_place s i) s

-- the other calls, by the active routine where it matters

abbrev pub raise_line : LineNo → Bool → State → Outcome
raise_line i true s = (s, 101)
raise_line i false s = (with_pending (with_member s.pending i.0) s, 100)

abbrev pub enter_line : LineNo → State → State
enter_line i s =
    with_active (Handler i)
    (with_suspended (s.active ∷ s.suspended) (with_pending (minus s.pending (2 ^ i.0)) (with_line i Handling s)))

abbrev pub pend_by : Routine → State → Outcome
pend_by Direct s = (s, 18)
pend_by Delayed s = (s, 18)
pend_by (Task t) s = (with_suspended (Task t ∷ s.suspended) (start_delayed s), 0)
pend_by (Handler i) s = (s, 18)

abbrev pub signal_by : Parts → ℕ → Routine → State → Outcome
signal_by plan set Direct s = (s, 18)
signal_by plan set Delayed s = (s, 18)
signal_by plan set (Task t) s =
    provided (in_application (task_of s t).place) 19 s
    (provided (within set (tasks plan)) 11 s
    (with_delayed false (with_task t (at_place Adding (at_kept set (task_of s t))) s), 0))
signal_by plan set (Handler i) s = (s, 18)

abbrev pub block_by : Routine → State → Outcome
block_by Direct s = (s, 18)
block_by Delayed s = (s, 18)
block_by (Task t) s = provided (in_application (task_of s t).place) 19 s (with_delayed false (move t Blocking s), 0)
block_by (Handler i) s = (s, 18)

abbrev pub post_by : Parts → EventNo → Routine → State → Outcome
post_by plan e Direct s = (s, 18)
post_by plan e Delayed s = (s, 18)
post_by plan e (Task t) s = (s, 18)
post_by plan e (Handler i) s =
    provided (in_handler (line_place s i)) 19 s
    (provided (nat_lt e.0 (events plan)) 11 s
    (with_posted (with_member s.posted e.0) (with_line i Posted s), 0))

abbrev pub leave_by : Routine → State → Outcome
leave_by Direct s = (s, 18)
leave_by Delayed s = (s, 18)
leave_by (Task t) s = (s, 18)
leave_by (Handler i) s = provided (in_handler (line_place s i)) 19 s (return (with_line i Idle s), 0)

abbrev pub enable : Parts → LineNo → Bool → State → Outcome
enable plan i true s = provided (nat_lt i.0 (lines plan)) 11 s (with_enabled (with_member s.enabled i.0) s, 0)
enable plan i false s = provided (nat_lt i.0 (lines plan)) 11 s (with_enabled (minus s.enabled (2 ^ i.0)) s, 0)

abbrev pub enable_by : Parts → LineNo → Bool → Routine → State → Outcome
enable_by plan i on Direct s = (s, 18)
enable_by plan i on Delayed s = (s, 18)
enable_by plan i on (Task t) s = provided (in_application (task_of s t).place) 19 s (enable plan i on s)
enable_by plan i on (Handler j) s = provided (in_handler (line_place s j)) 19 s (enable plan i on s)

-- one definition for each call

abbrev pub raised : Parts → LineNo → State → Outcome
raised plan i s = provided (nat_lt i.0 (lines plan)) 11 s (raise_line i (has s.pending i.0) s)

abbrev pub entered : Parts → Ranks → LineNo → State → Outcome
entered plan rank i s =
    provided (nat_lt i.0 (lines plan)) 11 s
    (provided (has s.pending i.0) 12 s
    (provided (has s.enabled i.0) 13 s
    (provided (not (nested i (s.active ∷ s.suspended))) 14 s
    (provided (gives_way rank i s.active) 15 s (enter_line i s, 0)))))

abbrev pub pended : State → Outcome
pended s = provided s.request 16 s (provided s.delayed 17 s (pend_by s.active s))

abbrev pub gone : Parts → Chooses → State → Outcome
gone plan choose s = go_by plan choose s.active s

abbrev pub signalled : Parts → ℕ → State → Outcome
signalled plan set s = signal_by plan set s.active s

abbrev pub blocked : State → Outcome
blocked s = block_by s.active s

abbrev pub posted_event : Parts → EventNo → State → Outcome
posted_event plan e s = post_by plan e s.active s

abbrev pub left : State → Outcome
left s = leave_by s.active s

abbrev pub masked : Parts → LineNo → State → Outcome
masked plan i s = enable_by plan i false s.active s

abbrev pub unmasked : Parts → LineNo → State → Outcome
unmasked plan i s = enable_by plan i true s.active s

unfoldable pub apply : Parts → Chooses → Ranks → Call → State → Outcome
apply plan choose rank (Raise i) s = raised plan i s
apply plan choose rank (Enter i) s = entered plan rank i s
apply plan choose rank Pend s = pended s
apply plan choose rank Go s = gone plan choose s
apply plan choose rank (Signal set) s = signalled plan set.bits s
apply plan choose rank Block s = blocked s
apply plan choose rank (Post e) s = posted_event plan e s
apply plan choose rank Leave s = left s
apply plan choose rank (Mask i) s = masked plan i s
apply plan choose rank (Unmask i) s = unmasked plan i s
