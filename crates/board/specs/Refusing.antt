-- Refusals as a list of tests in their order: what each test finds wrong, if anything.
use Rattle.std.specs.Prelude.{◌≡◌, ℕ, ◌<◌, Bool, true, false, List, [], ◌∷◌, Some, None, Ok, Err, Option, Result, slice_index_or}

-- a test that finds e where the condition fails
abbrev pub needs : {E : Type 0} → Bool → E → Option E
needs true e = None
needs false e = Some e

abbrev pub or_else : {E : Type 0} → Option E → Option E → Option E
or_else (Some e) o = Some e
or_else None o = o

-- what the first test that finds something finds
abbrev pub first : {E : Type 0} → List (Option E) → Option E
first [] = None
first (found ∷ rest) = or_else found (first rest)

-- refused by what was found, or answered
abbrev pub unless : {A E : Type 0} → Option E → A → Result A E
unless (Some e) a = Err e
unless None a = Ok a

-- passed, or refused by what the first test finds
abbrev pub checked : {E : Type 0} → List (Option E) → Result (Unit {0}) E
checked tests = unless (first tests) (tt {0})

-- e is found by some test, and no test before it finds anything
pub record ComesFirst {E : Type 0} (tests : List (Option E)) (e : E) : Type 0 where
  pub place : ℕ
  pub found : slice_index_or tests place None ≡ Some e
  pub before : (earlier : ℕ) → earlier < place → slice_index_or tests earlier None ≡ None
