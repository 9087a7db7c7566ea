-- What the invariant of a system says of its ranks and of its suspended routines.
use Rattle.std.proofs.Common.{◌≡◌, ◌<◌, ◌≤◌, true, ltb, ◌∷◌, length, subst}
use Rattle.numbers.specs.declared.number.LineNo.{LineNo}
use Rattle.numbers.specs.declared.number.TaskNo.{TaskNo}
use Rattle.board.specs.Figure.{figure_of}
use Rattle.board.specs.Ranks.{rank_bound}
use Rattle.kernel.specs.declared.routine.Routine.{Routine}
use Rattle.kernel.specs.declared.routine.Routine.TheVariants.{Delayed, Task, Handler}
use Rattle.kernel.specs.Rules.{gives_way, lines}
use Rattle.system.specs.declared.system.System.{System}
use Rattle.system.specs.Listed.{listed}
use Rattle.system.specs.Stacked.{stacked}
use Rattle.system.specs.Systems.{board_of, ranks_of, state_of}
use Rattle.system.proofs.Standing.{over, room_over, room_task, within_figure}

pub ranks_bounded : (s : System) (i : LineNo) → ranks_of s i < rank_bound
ranks_bounded s i = s.ranks.small i.0

pub suspended_bounded : (s : System) → length (state_of s).suspended ≤ figure_of (ranks_of s) (lines (board_of s))
suspended_bounded s = within_figure (ranks_of s) (lines (board_of s)) (ranks_bounded s) s.state.active (listed s.state.suspended) s.stands

-- a handler that may be entered, and what it interrupts

pub record MayEnter (s : System) (i : LineNo) : Type 0 where
  pub known : ltb i.0 (lines (board_of s)) ≡ true
  pub lower : gives_way (ranks_of s) i s.state.active ≡ true

pub room_to_enter : (s : System) (i : LineNo) → MayEnter s i → length (listed s.state.suspended) < 9
room_to_enter s i h = room_over (ranks_of s) (lines (board_of s)) (ranks_bounded s) i s.state.active (listed s.state.suspended) h.known h.lower s.stands

pub entered_stands : (s : System) (i : LineNo) → MayEnter s i → stacked (ranks_of s) (lines (board_of s)) (Handler i) (s.state.active ∷ listed s.state.suspended) ≡ true
entered_stands s i h = over (ranks_of s) (lines (board_of s)) i s.state.active (listed s.state.suspended) h.known h.lower s.stands

-- a task that is active, and the delayed scheduler over it

task_stands : (s : System) (t : TaskNo) → s.state.active ≡ Task t → stacked (ranks_of s) (lines (board_of s)) (Task t) (listed s.state.suspended) ≡ true
task_stands s t e = subst (λ (a : Routine). stacked (ranks_of s) (lines (board_of s)) a (listed s.state.suspended) ≡ true) e s.stands

pub room_to_pend : (s : System) (t : TaskNo) → s.state.active ≡ Task t → length (listed s.state.suspended) < 9
room_to_pend s t e = room_task (ranks_of s) (lines (board_of s)) t (listed s.state.suspended) (task_stands s t e)

pub pended_stands : (s : System) (t : TaskNo) → s.state.active ≡ Task t → stacked (ranks_of s) (lines (board_of s)) Delayed (Task t ∷ listed s.state.suspended) ≡ true
pended_stands s t e = task_stands s t e
