-- The suspended routines, as a list.
use Rattle.std.specs.Prelude.{ℕ, zero, suc, List, [], ◌∷◌, Some, None, Option, slice_index_or}
use Rattle.kernel.specs.declared.routine.Routine.{Routine}
use Rattle.kernel.specs.declared.routine.Routine.TheVariants.{Direct}
use Rattle.system.specs.declared.stack.Stack.{Stack}

-- the first n slots, the latest first
abbrev pub latest : List Routine → ℕ → List Routine
latest slots zero = []
latest slots (suc n) = slice_index_or slots n Direct ∷ latest slots n

abbrev pub listed : Stack → List Routine
listed s = latest s.slots s.len

abbrev pub nth : List Routine → ℕ → Option Routine
nth [] i = None
nth (r ∷ rs) zero = Some r
nth (r ∷ rs) (suc i) = nth rs i
