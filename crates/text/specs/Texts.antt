-- Text of at most 512 bytes, which clauses see as its bytes.
use Rattle.std.specs.Prelude.{◌≡◌, ℕ, ◌-◌, ◌≤◌, List, ◌++◌, length, drop, take, replicate}

-- what there is room for
abbrev pub cut : List ℕ → List ℕ
cut bs = take 512 bs

-- the 512 bytes that a text of these bytes is kept in
abbrev pub padded : List ℕ → List ℕ
padded bs = bs ++ replicate (512 - length bs) 0

-- of the 512 bytes each one from `len` on is 0
pub record Padded (len : ℕ) (bytes : List ℕ) : Type 0 where
  pub fits : len ≤ 512
  pub sized : length bytes ≡ 512
  pub zeros : drop len bytes ≡ replicate (512 - len) 0
