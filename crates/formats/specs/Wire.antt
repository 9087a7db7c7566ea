-- The bytes of a plan.
use Rattle.std.specs.Prelude.{ℕ, ◌+◌, ◌*◌, ◌/◌, ◌%◌, List, [], ◌∷◌, ◌++◌, length, slice_index}
use Rattle.board.specs.Plans.{Parts}

-- numbers of two bytes, low byte first
abbrev pub twos : List ℕ → List ℕ
twos [] = []
twos (x ∷ xs) = x % 256 ∷ x / 256 % 256 ∷ twos xs

abbrev pub words : List ℕ → List ℕ
words [] = []
words (a ∷ []) = []
words (a ∷ b ∷ xs) = (a + b * 256) ∷ words xs

abbrev pub word : List ℕ → ℕ → ℕ
word bs i = slice_index bs i + slice_index bs (i + 1) * 256

-- the size of a plan
abbrev pub size : ℕ → ℕ → ℕ → ℕ
size tasks lines events = 14 + tasks + lines + 2 * events

-- the mark PLN, version 1, the counts, the policy and the rule, the start set and the favoured set
abbrev pub head : Parts → List ℕ
head p =
    80 ∷ 76 ∷ 78 ∷ 1 ∷ 0 ∷ length p.priorities ∷ length p.levels ∷ length p.wakes ∷ p.policy ∷ p.rule
    ∷ p.start % 256
    ∷ p.start / 256 % 256
    ∷ p.favoured % 256
    ∷ p.favoured / 256 % 256
    ∷ []

-- the head, the priorities, the levels and the wake sets
abbrev pub encode : Parts → List ℕ
encode p = head p ++ (p.priorities ++ (p.levels ++ twos p.wakes))
