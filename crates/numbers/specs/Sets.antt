-- Sets of numbers below 16: the bits of a number below 2 ^ 16.
use Rattle.std.specs.Prelude.{◌≡◌, ℕ, zero, suc, ◌/◌, ◌%◌, ◌^◌, ◌<◌, Bool, true, cond, ◌==◌, bit_and, bit_or, bit_xor, nat_lt}

-- whether n is a member
unfoldable pub has : ℕ → ℕ → Bool
has s n = s / 2 ^ n % 2 == 1

-- each member is below n
abbrev pub AllBelow : ℕ → ℕ → Type 0
AllBelow n s = (m : ℕ) → has s m ≡ true → m < n

-- the members of both sets
abbrev pub both : ℕ → ℕ → ℕ
both a b = bit_and a b

-- the members of either set
abbrev pub either : ℕ → ℕ → ℕ
either a b = bit_or a b

-- the members of a that b lacks
abbrev pub minus : ℕ → ℕ → ℕ
minus a b = bit_xor a (bit_and a b)

-- the set with n as a member; a number above 15 is never one
abbrev pub with_member : ℕ → ℕ → ℕ
with_member s n = cond (nat_lt n 16) (bit_or s (2 ^ n)) s

-- the set of those numbers below n that pass a test
unfoldable pub gathered : ℕ → (ℕ → Bool) → ℕ
gathered zero p = 0
gathered (suc n) p = cond (p n) (bit_or (gathered n p) (2 ^ n)) (gathered n p)
