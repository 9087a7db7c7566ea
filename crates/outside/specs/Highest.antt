-- The highest member of a set.
use Rattle.std.specs.Prelude.{ℕ, zero, suc, cond, Some, None, Option}
use Rattle.numbers.specs.declared.number.TaskNo.{TaskNo}
use Rattle.numbers.specs.Sets.{has}

-- the highest member below n
unfoldable pub highest : ℕ → ℕ → Option TaskNo
highest zero s = None
highest (suc n) s = cond (has s n) (Some (record { 0 = n })) (highest n s)
