-- The steps of a run, and the calls that they stand for.
use Rattle.std.specs.Prelude.{ℕ, ◌/◌, ◌%◌, Bool, cond, ◌&&◌, ◌||◌, List, [], ◌∷◌, Option, Result, ◌==◌, nat_le}
use Rattle.board.specs.Refusing.{first, needs, unless}
use Rattle.kernel.specs.declared.call.Call.{Call}
use Rattle.kernel.specs.declared.call.Call.TheVariants.{Raise, Enter, Pend, Go, Signal, Block, Post, Leave, Mask, Unmask}
use Rattle.runs.specs.declared.fault.StepRefusal.{StepRefusal}
use Rattle.runs.specs.declared.fault.StepRefusal.TheVariants.{Code, Number, Low, High}
use Rattle.runs.specs.declared.step.Step.{Step}

-- raise, enter, post, mask and unmask
abbrev pub uses_number : ℕ → Bool
uses_number code = code == 1 || (code == 2 || (code == 7 || (code == 9 || code == 10)))

-- signal
abbrev pub uses_set : ℕ → Bool
uses_set code = code == 5

-- The tests of a step, in their order: the code is known, and each byte that it doesn't use is zero.
abbrev pub step_tests : Step → List (Option StepRefusal)
step_tests s =
    needs (nat_le 1 s.code && nat_le s.code 10) Code
    ∷ needs (uses_number s.code || s.number == 0) Number
    ∷ needs (uses_set s.code || s.set % 256 == 0) Low
    ∷ needs (uses_set s.code || s.set / 256 == 0) High
    ∷ []

-- the call of a step that passes
abbrev pub call_of : Step → Call
call_of s =
    cond (s.code == 1) (Raise (record { 0 = s.number }))
    (cond (s.code == 2) (Enter (record { 0 = s.number }))
    (cond (s.code == 3) Pend
    (cond (s.code == 4) Go
    (cond (s.code == 5) (Signal (record { bits = s.set; kind = record {} }))
    (cond (s.code == 6) Block
    (cond (s.code == 7) (Post (record { 0 = s.number }))
    (cond (s.code == 8) Leave
    (cond (s.code == 9) (Mask (record { 0 = s.number })) (Unmask (record { 0 = s.number }))))))))))

abbrev pub step_call : Step → Result Call StepRefusal
step_call s = unless (first (step_tests s)) (call_of s)
