-- What every policy owes, and what the policy `stay` and a favoured group choose.
-- A policy's meaning takes the set of ready tasks and the current task to the chosen task, or to none.
use Rattle.std.specs.Prelude.{◌≡◌, ℕ, zero, suc, ◌+◌, ◌-◌, ◌%◌, ◌<◌, min, true, false, cond, Some, None, Option, ◌==◌, ◌≢◌}
use Rattle.numbers.specs.declared.number.TaskNo.{TaskNo}
use Rattle.numbers.specs.Sets.{has, both}

-- none is answered exactly when the set is empty
abbrev pub NoneExactlyWhenEmpty : ℕ → Option TaskNo → Type 0
NoneExactlyWhenEmpty s answer = (answer ≡ None → s ≡ 0) × (s ≡ 0 → answer ≡ None)

-- a task that is answered is in the set
abbrev pub OnlyFrom : ℕ → Option TaskNo → Type 0
OnlyFrom s answer = (t : TaskNo) → answer ≡ Some t → has s t.0 ≡ true

-- a relation holds of this answer, and of no other
abbrev pub Exactly : (Option TaskNo → Type 0) → Option TaskNo → Type 0
Exactly Fits answer = Fits answer × ((other : Option TaskNo) → Fits other → other ≡ answer)

-- none, and the set is empty; or a task of which this holds
abbrev pub OneOrEmpty : ℕ → (ℕ → Type 0) → Option TaskNo → Type 0
OneOrEmpty s One None = s ≡ 0
OneOrEmpty s One (Some t) = One t.0

-- a current number above 15 counts as 15
abbrev pub counted : TaskNo → ℕ
counted c = min c.0 15

-- how far it is from task c up to task t, going from 15 to 0
abbrev pub up : ℕ → ℕ → ℕ
up c t = (t + 16 - c) % 16

-- u lies strictly between c and t, going up from c and from 15 to 0
abbrev pub Between : ℕ → ℕ → ℕ → Type 0
Between c u t = (u < 16) × (0 < up c u) × (up c u < up c t)

-- stay: the current task if it is ready; otherwise a ready task, with no ready one between
pub record Nearest (s c t : ℕ) : Type 0 where
  pub ready : has s t ≡ true
  pub stays : has s c ≡ true → t ≡ c
  pub skips : (u : ℕ) → Between c u t → has s u ≡ false

abbrev pub StaysOrNearest : ℕ → TaskNo → Option TaskNo → Type 0
StaysOrNearest s c = OneOrEmpty s (Nearest s (counted c))

-- the first member among n numbers from `at` on, going from 15 to 0
unfoldable pub first_from : ℕ → ℕ → ℕ → Option TaskNo
first_from zero s at = None
first_from (suc n) s at = cond (has s at) (Some (record { 0 = at })) (first_from n s ((at + 1) % 16))

-- stay, as a function
unfoldable pub stay : ℕ → TaskNo → Option TaskNo
stay s c = first_from 16 s (counted c)

-- a favoured group f over a policy: its ready tasks alone are asked about if there are any, otherwise all ready tasks
pub record Favours (below : ℕ → TaskNo → Option TaskNo) (f s : ℕ) (c : TaskNo) (answer : Option TaskNo) : Type 0 where
  pub some_favoured : (t : ℕ) → has s t ≡ true → has f t ≡ true → answer ≡ below (both s f) c
  pub none_favoured : ((t : ℕ) → has s t ≡ true → has f t ≢ true) → answer ≡ below s c

-- the same as a function
abbrev pub favour : (ℕ → TaskNo → Option TaskNo) → ℕ → ℕ → TaskNo → Option TaskNo
favour below f s c = cond (both s f == 0) (below s c) (below (both s f) c)
