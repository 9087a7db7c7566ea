-- What the policies `priority` and `shared` choose. A list gives the tasks' priorities, from task 0 on;
-- a task past its end has priority 0.
use Rattle.std.specs.Prelude.{◌≡◌, ℕ, zero, suc, ◌<◌, ◌≤◌, max, Bool, true, cond, ◌&&◌, List, Option, ◌==◌, slice_index}
use Rattle.numbers.specs.declared.number.TaskNo.{TaskNo}
use Rattle.numbers.specs.Sets.{has, gathered}
use Rattle.policy.specs.Policies.{Between, OneOrEmpty, counted, stay}

abbrev pub priority_of : List ℕ → ℕ → ℕ
priority_of ps t = slice_index ps t

-- no ready task has a higher priority
abbrev pub NoneHigher : List ℕ → ℕ → ℕ → Type 0
NoneHigher ps s t = (u : ℕ) → u < 16 → has s u ≡ true → priority_of ps u ≤ priority_of ps t

-- priority: a ready task; none is higher, and none of equal priority has a lower number
pub record Foremost (ps : List ℕ) (s t : ℕ) : Type 0 where
  pub ready : has s t ≡ true
  pub highest : NoneHigher ps s t
  pub lowest : (u : ℕ) → u < 16 → has s u ≡ true → priority_of ps u ≡ priority_of ps t → t ≤ u

abbrev pub HighestThenLowest : List ℕ → ℕ → Option TaskNo → Type 0
HighestThenLowest ps s = OneOrEmpty s (Foremost ps s)

-- shared: a ready task, and none is higher; the current task if that holds of it, and otherwise
-- each ready task between has a lower priority
pub record NearestOfHighest (ps : List ℕ) (s c t : ℕ) : Type 0 where
  pub ready : has s t ≡ true
  pub highest : NoneHigher ps s t
  pub stays : has s c ≡ true → NoneHigher ps s c → t ≡ c
  pub skips : (u : ℕ) → Between c u t → has s u ≡ true → priority_of ps u < priority_of ps t

abbrev pub StaysOrNearestOfHighest : List ℕ → ℕ → TaskNo → Option TaskNo → Type 0
StaysOrNearestOfHighest ps s c = OneOrEmpty s (NearestOfHighest ps s (counted c))

-- the highest priority of the members below n
unfoldable pub highest_below : ℕ → List ℕ → ℕ → ℕ
highest_below zero ps s = 0
highest_below (suc n) ps s = cond (has s n) (max (priority_of ps n) (highest_below n ps s)) (highest_below n ps s)

abbrev pub highest_priority : List ℕ → ℕ → ℕ
highest_priority ps s = highest_below 16 ps s

-- whether t is a member of this priority
abbrev pub member_of_priority : List ℕ → ℕ → ℕ → ℕ → Bool
member_of_priority ps s p t = has s t && priority_of ps t == p

-- the members of highest priority
abbrev pub leaders : List ℕ → ℕ → ℕ
leaders ps s = gathered 16 (member_of_priority ps s (highest_priority ps s))

-- priority and shared, as functions
abbrev pub by_priority : List ℕ → ℕ → Option TaskNo
by_priority ps s = stay (leaders ps s) (record { 0 = 0 })

abbrev pub share : List ℕ → ℕ → TaskNo → Option TaskNo
share ps s c = stay (leaders ps s) c
