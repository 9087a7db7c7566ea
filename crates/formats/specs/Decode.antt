-- What bytes say when they are read as a plan.
use Rattle.std.specs.Prelude.{◌≡◌, ℕ, ◌+◌, ◌<◌, ◌&&◌, List, [], ◌∷◌, ◌++◌, map, length, drop, Some, None, Ok, Err, Option, Result, ◌==◌, nat_le, slice_index}
use Rattle.std.specs.Borrow.{Bor}
use Rattle.std.specs.List.{between}
use Rattle.board.specs.declared.plan.Plan.{Plan}
use Rattle.board.specs.declared.refusal.PlanRefusal.{PlanRefusal}
use Rattle.board.specs.Plans.{Parts, count_tests, number_tests, set_tests, planned}
use Rattle.board.specs.Refusing.{needs, first, unless}
use Rattle.board.specs.Viewed.{parts}
use Rattle.formats.specs.declared.fault.PlanFault.{PlanFault}
use Rattle.formats.specs.declared.fault.PlanFault.TheVariants.{Short, Mark, Version, Refused}
use Rattle.formats.specs.Wire.{encode, size, word, words}

abbrev pub carried : Option PlanRefusal → Option PlanFault
carried (Some refusal) = Some (Refused refusal)
carried None = None

-- the size by the counts that the bytes give
abbrev pub size_at : List ℕ → ℕ
size_at bs = size (slice_index bs 5) (slice_index bs 6) (slice_index bs 7)

-- the parts that the bytes give
abbrev pub parts_at : List ℕ → Parts
parts_at bs =
    let levels_at = 14 + slice_index bs 5 in
    let wakes_at = levels_at + slice_index bs 6 in
    record {
      policy = slice_index bs 8;
      rule = slice_index bs 9;
      start = word bs 10;
      favoured = word bs 12;
      priorities = between 14 levels_at bs;
      levels = between levels_at wakes_at bs;
      wakes = words (between wakes_at (size_at bs) bs);
    }

abbrev pub head_tests : List ℕ → List (Option PlanFault)
head_tests bs =
    needs (nat_le 14 (length bs)) (Short (length bs))
    ∷ needs (slice_index bs 0 == 80 && (slice_index bs 1 == 76 && slice_index bs 2 == 78)) Mark
    ∷ needs (word bs 3 == 1) Version
    ∷ []

-- the tests of plan bytes, in their order
abbrev pub byte_tests : List ℕ → List (Option PlanFault)
byte_tests bs =
    head_tests bs
    ++ (map carried (count_tests (slice_index bs 5) (slice_index bs 6) (slice_index bs 7))
    ++ (map carried (number_tests (slice_index bs 8) (slice_index bs 9))
    ++ (needs (nat_le (size_at bs) (length bs)) (Short (length bs)) ∷ map carried (set_tests (parts_at bs)))))

-- the plan that begins the bytes, and the rest of them; or the first fault
abbrev pub decode : List ℕ → Result (Parts × List ℕ) PlanFault
decode bs = unless (first (byte_tests bs)) (parts_at bs, drop (size_at bs) bs)

-- every element is a byte
abbrev pub Bytes : List ℕ → Type 0
Bytes bs = (i : ℕ) → slice_index bs i < 256

-- the parts of a plan
abbrev pub Legal : Parts → Type 0
Legal p = planned p ≡ Ok p

-- every set is a number of two bytes
pub record TwoByteSets (p : Parts) : Type 0 where
  pub start : p.start < 65536
  pub favoured : p.favoured < 65536
  pub wakes : (k : ℕ) → slice_index p.wakes k < 65536

-- an answer about tables, with some bytes after them
abbrev pub with_rest : List ℕ → Result Parts PlanRefusal → Result (Parts × List ℕ) PlanFault
with_rest rest (Ok p) = Ok (p, rest)
with_rest rest (Err refusal) = Err (Refused refusal)

-- the bytes begin with some plan's form
abbrev pub BeginsWithAPlan : List ℕ → Type 0
BeginsWithAPlan bs = (p : Parts) × (rest : List ℕ) × Legal p × (bs ≡ encode p ++ rest)

-- an answer with the rest of the bytes, by the parts of its plan
abbrev pub read_as : Result Plan PlanFault → List ℕ → Result (Parts × List ℕ) PlanFault
read_as (Ok plan) rest = Ok (parts plan, rest)
read_as (Err fault) rest = Err fault

-- the same of an answer that has the rest itself
abbrev pub plan_and_rest : Result (Plan × Bor (List ℕ)) PlanFault → Result (Parts × List ℕ) PlanFault
plan_and_rest (Ok read) = Ok (parts read.0, read.1.now)
plan_and_rest (Err fault) = Err fault

-- the same of an answer that gives the plan's size
abbrev pub sized : List ℕ → Result (Plan × ℕ) PlanFault → Result (Parts × List ℕ) PlanFault
sized bs (Ok answer) = Ok (parts answer.0, drop answer.1 bs)
sized bs (Err fault) = Err fault
