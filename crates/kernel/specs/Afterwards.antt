-- What holds after every list of calls.
use Rattle.std.specs.Prelude.{◌≡◌, ℕ, ◌+◌, ◌<◌, ◌≤◌, cond, ◌&&◌, List, [], ◌∷◌, ◌++◌, reverse, length, Some, ◌==◌, bit_or, slice_index_or}
use Rattle.numbers.specs.declared.number.LineNo.{LineNo}
use Rattle.numbers.specs.declared.number.TaskNo.{TaskNo}
use Rattle.numbers.specs.Sets.{has}
use Rattle.board.specs.Figure.{figure_of}
use Rattle.board.specs.Plans.{Parts}
use Rattle.kernel.specs.declared.call.Call.{Call}
use Rattle.kernel.specs.declared.call.Call.TheVariants.{Raise, Enter, Pend, Go, Signal, Block, Post, Leave, Mask, Unmask}
use Rattle.kernel.specs.declared.place.TaskPlace.TheVariants.{Application}
use Rattle.kernel.specs.declared.routine.Routine.{Routine}
use Rattle.kernel.specs.declared.routine.Routine.TheVariants.{Direct, Delayed, Task, Handler}
use Rattle.kernel.specs.States.{State, task_of}
use Rattle.kernel.specs.Rules.{Chooses, Ranks, lines, woken}
use Rattle.kernel.specs.Histories.{Answered, History, Leads, history}

-- The lines whose handlers have been entered and not left: an accepted enter puts its line last, an accepted
-- leave takes the last off.

abbrev pub but_last : List LineNo → List LineNo
but_last [] = []
but_last (i ∷ []) = []
but_last (i ∷ (j ∷ more)) = i ∷ but_last (j ∷ more)

abbrev pub nest_more : Call → ℕ → List LineNo → List LineNo
nest_more (Raise i) a nest = nest
nest_more (Enter i) a nest = cond (a == 0) (nest ++ (i ∷ [])) nest
nest_more Pend a nest = nest
nest_more Go a nest = nest
nest_more (Signal set) a nest = nest
nest_more Block a nest = nest
nest_more (Post e) a nest = nest
nest_more Leave a nest = cond (a == 0) (but_last nest) nest
nest_more (Mask i) a nest = nest
nest_more (Unmask i) a nest = nest

abbrev pub nest : List Answered → List LineNo
nest [] = []
nest (e ∷ past) = nest_more e.call e.answer (nest past)

-- the new raises of a line: those that answered 100

abbrev pub new_raise : LineNo → Call → ℕ → ℕ
new_raise i (Raise j) a = cond (i.0 == j.0 && a == 100) 1 0
new_raise i (Enter j) a = 0
new_raise i Pend a = 0
new_raise i Go a = 0
new_raise i (Signal set) a = 0
new_raise i Block a = 0
new_raise i (Post e) a = 0
new_raise i Leave a = 0
new_raise i (Mask j) a = 0
new_raise i (Unmask j) a = 0

abbrev pub new_raises : LineNo → List Answered → ℕ
new_raises i [] = 0
new_raises i (e ∷ past) = new_raise i e.call e.answer + new_raises i past

-- the accepted enters of a line: those that answered 0

abbrev pub accepted_enter : LineNo → Call → ℕ → ℕ
accepted_enter i (Raise j) a = 0
accepted_enter i (Enter j) a = cond (i.0 == j.0 && a == 0) 1 0
accepted_enter i Pend a = 0
accepted_enter i Go a = 0
accepted_enter i (Signal set) a = 0
accepted_enter i Block a = 0
accepted_enter i (Post e) a = 0
accepted_enter i Leave a = 0
accepted_enter i (Mask j) a = 0
accepted_enter i (Unmask j) a = 0

abbrev pub accepted_enters : LineNo → List Answered → ℕ
accepted_enters i [] = 0
accepted_enters i (e ∷ past) = accepted_enter i e.call e.answer + accepted_enters i past

-- the handlers among some routines
abbrev pub handlers : List Routine → List LineNo
handlers [] = []
handlers (Direct ∷ rs) = handlers rs
handlers (Delayed ∷ rs) = handlers rs
handlers (Task t ∷ rs) = handlers rs
handlers (Handler i ∷ rs) = i ∷ handlers rs

-- A task that is active in application code is what the policy, asked with that task as current, chooses from
-- the ready tasks together with those that a posted event would wake.
abbrev pub RunningTaskIsThePolicysChoice : Parts → Chooses → State → Type 0
RunningTaskIsThePolicysChoice plan choose s =
    (t : TaskNo) → s.active ≡ Task t → (task_of s t).place ≡ Application →
    choose (bit_or s.ready (woken plan.wakes s.posted)) t ≡ Some t

-- Read backwards, the lines entered and not left are the active handler, if any, and then the suspended ones; of
-- any two the later has the strictly lower rank; and the suspended routines stay within the figure.
pub record InnerHandlersHaveLowerRank (plan : Parts) (rank : Ranks) (h : History) : Type 0 where
  pub nest_is_the_handlers : reverse (nest h.past) ≡ handlers (h.state.active ∷ h.state.suspended)
  pub later_is_lower :
      (j k : ℕ) → j < k → k < length (nest h.past) →
      rank (slice_index_or (nest h.past) k (record { 0 = 0 })) < rank (slice_index_or (nest h.past) j (record { 0 = 0 }))
  pub suspended_within_figure : length h.state.suspended ≤ figure_of rank (lines plan)

-- A line's new raises are its accepted enters, plus one exactly when it is pending.
abbrev pub RaisesAreEnteredOrPending : Parts → History → Type 0
RaisesAreEnteredOrPending plan h =
    (i : LineNo) → i.0 < lines plan →
    new_raises i h.past ≡ accepted_enters i h.past + cond (has h.state.pending i.0) 1 0

-- the three together
pub record SoundHistory (plan : Parts) (choose : Chooses) (rank : Ranks) (h : History) : Type 0 where
  pub running : RunningTaskIsThePolicysChoice plan choose h.state
  pub nesting : InnerHandlersHaveLowerRank plan rank h
  pub raises : RaisesAreEnteredOrPending plan h

-- the three of a state, whatever list of calls led to it
abbrev pub SoundHoweverLed : Parts → Chooses → Ranks → State → Type 0
SoundHoweverLed plan choose rank s =
    (calls : List Call) → Leads plan choose rank calls s → SoundHistory plan choose rank (history plan choose rank calls s)
