-- How routines stand on one another.
use Rattle.std.specs.Prelude.{ℕ, Bool, false, ◌&&◌, List, [], ◌∷◌, nat_lt, slice_index}
use Rattle.kernel.specs.declared.routine.Routine.{Routine}
use Rattle.kernel.specs.declared.routine.Routine.TheVariants.{Direct, Delayed, Task, Handler}
use Rattle.kernel.specs.Rules.{Ranks, gives_way, is_task}

-- the ranks that a table gives; 0 beyond it
abbrev pub rank_in : List ℕ → Ranks
rank_in of i = slice_index of i.0

-- a routine may stand right above another: a scheduler above a task, a handler of the plan above what gives way to it
abbrev pub above : Ranks → ℕ → Routine → Routine → Bool
above rank lines Direct r = is_task r
above rank lines Delayed r = is_task r
above rank lines (Task t) r = false
above rank lines (Handler i) r = nat_lt i.0 lines && gives_way rank i r

-- each routine stands rightly above the next, with a task at the bottom
abbrev pub stacked : Ranks → ℕ → Routine → List Routine → Bool
stacked rank lines a [] = is_task a
stacked rank lines a (r ∷ rs) = above rank lines a r && stacked rank lines r rs
