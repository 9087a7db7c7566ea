-- How many routines interrupts can suspend at once.
use Rattle.std.specs.Prelude.{◌≡◌, ℕ, zero, suc, ◌+◌, ◌<◌, Bool, false, not, ◌||◌, List, [], ◌∷◌, length, ◌==◌, if◌then◌else◌}
use Rattle.numbers.specs.declared.number.LineNo.{LineNo}

-- whether one of the first n lines has the rank r
unfoldable pub some_line : (LineNo → ℕ) → ℕ → ℕ → Bool
some_line rank r zero = false
some_line rank r (suc n) = some_line rank r n || rank (record { 0 = n }) == r

-- how many of the numbers below n pass a test
unfoldable pub how_many : ℕ → (ℕ → Bool) → ℕ
how_many zero p = 0
how_many (suc n) p = how_many n p + (if p n then 1 else 0)

-- whether no line before line i has its rank
abbrev pub first_of_its_rank : (LineNo → ℕ) → ℕ → Bool
first_of_its_rank rank i = not (some_line rank (rank (record { 0 = i })) i)

-- how many different ranks the first n lines have
abbrev pub different_ranks : (LineNo → ℕ) → ℕ → ℕ
different_ranks rank lines = how_many lines (first_of_its_rank rank)

-- the figure: of nested handlers the inmost is active, and below the others at most a scheduler and a task are suspended
abbrev pub figure_of : (LineNo → ℕ) → ℕ → ℕ
figure_of rank lines = 1 + different_ranks rank lines

-- Handlers that are nested, the inmost first: each is of one of the first n lines, and has a strictly
-- lower rank than the one that it interrupted.
abbrev pub Nested : (LineNo → ℕ) → ℕ → List LineNo → Type 0
Nested rank lines [] = Unit {0}
Nested rank lines (i ∷ []) = i.0 < lines
Nested rank lines (i ∷ j ∷ outer) = (i.0 < lines) × (rank i < rank j) × Nested rank lines (j ∷ outer)

-- the figure in the subject's words: more than any nest of handlers, by exactly one more than the deepest
pub record OneMoreThanTheDeepestNest (rank : LineNo → ℕ) (lines figure : ℕ) : Type 0 where
  pub above_all : (nest : List LineNo) → Nested rank lines nest → length nest < figure
  pub deepest : List LineNo
  pub deepest_nests : Nested rank lines deepest
  pub met : 1 + length deepest ≡ figure
