-- What bytes say when they are read as a run.
use Rattle.std.specs.Prelude.{ℕ, ◌+◌, ◌-◌, ◌*◌, ◌/◌, ◌%◌, cond, ◌&&◌, List, [], ◌∷◌, ◌++◌, map, length, drop, Some, None, Ok, Err, Option, Result, ◌==◌, nat_le, slice_index}
use Rattle.board.specs.Refusing.{first, needs, unless}
use Rattle.formats.specs.Wire.{word}
use Rattle.kernel.specs.declared.call.Call.{Call}
use Rattle.kernel.specs.declared.call.Call.TheVariants.{Raise, Enter, Pend, Go, Signal, Block, Post, Leave, Mask, Unmask}
use Rattle.runs.specs.declared.fault.RunFault.{RunFault}
use Rattle.runs.specs.declared.fault.RunFault.TheVariants.{Short, Mark, Version, Cut, Many, Unused}
use Rattle.runs.specs.declared.fault.RunFault.TheVariants as fault
use Rattle.runs.specs.declared.fault.StepRefusal.{StepRefusal}
use Rattle.runs.specs.declared.fault.StepRefusal.TheVariants.{Code, Number, Low, High}
use Rattle.runs.specs.declared.step.Step.{Step}
use Rattle.runs.specs.Steps.{call_of, step_call, step_tests}

-- the mark RUN, and version 1
abbrev pub run_head : List ℕ
run_head = 82 ∷ 85 ∷ 78 ∷ 1 ∷ 0 ∷ []

-- four bytes for each step: the code, the number, and the set, low byte first
abbrev pub fours : List Step → List ℕ
fours [] = []
fours (s ∷ steps) = s.code ∷ s.number ∷ s.set % 256 ∷ s.set / 256 % 256 ∷ fours steps

abbrev pub encode_run : List Step → List ℕ
encode_run steps = run_head ++ fours steps

-- the step of four bytes
abbrev pub step_in : ℕ → ℕ → ℕ → ℕ → Step
step_in c n low high = record { code = c; number = n; set = low + high * 256 }

-- the whole steps in some bytes
abbrev pub steps_in : List ℕ → List Step
steps_in [] = []
steps_in (c ∷ []) = []
steps_in (c ∷ n ∷ []) = []
steps_in (c ∷ n ∷ low ∷ []) = []
steps_in (c ∷ n ∷ low ∷ high ∷ bs) = step_in c n low high ∷ steps_in bs

-- a step's refusal, by the place of its first byte
abbrev pub refused_at : ℕ → StepRefusal → RunFault
refused_at place Code = fault.Code place
refused_at place Number = Unused (place + 1)
refused_at place Low = Unused (place + 2)
refused_at place High = Unused (place + 3)

abbrev pub found_at : ℕ → Option StepRefusal → Option RunFault
found_at place None = None
found_at place (Some refusal) = Some (refused_at place refusal)

-- the tests of the steps that stand from a place on, in their order
abbrev pub steps_tests : ℕ → List Step → List (Option RunFault)
steps_tests place [] = []
steps_tests place (s ∷ steps) = found_at place (first (step_tests s)) ∷ steps_tests (place + 4) steps

-- the tests of the head, of the size and of the number of steps
abbrev pub opening_tests : List ℕ → List (Option RunFault)
opening_tests bs =
    needs (nat_le 5 (length bs)) (Short (length bs))
    ∷ needs (slice_index bs 0 == 82 && (slice_index bs 1 == 85 && slice_index bs 2 == 78)) Mark
    ∷ needs (word bs 3 == 1) Version
    ∷ needs ((length bs - 5) % 4 == 0) (Cut (length bs - (length bs - 5) % 4))
    ∷ needs (nat_le (length bs) 262145) Many
    ∷ []

-- the tests of run bytes, in their order
abbrev pub run_tests : List ℕ → List (Option RunFault)
run_tests bs = opening_tests bs ++ steps_tests 5 (steps_in (drop 5 bs))

-- the calls of the run, or the first fault
abbrev pub decode_run : List ℕ → Result (List Call) RunFault
decode_run bs = unless (first (run_tests bs)) (map call_of (steps_in (drop 5 bs)))

-- the step that stands for a call

abbrev numbered : ℕ → ℕ → Step
numbered code number = record { code = code; number = number; set = 0 }

abbrev pub step_of : Call → Step
step_of (Raise i) = numbered 1 i.0
step_of (Enter i) = numbered 2 i.0
step_of Pend = numbered 3 0
step_of Go = numbered 4 0
step_of (Signal set) = record { code = 5; number = 0; set = set.bits }
step_of Block = numbered 6 0
step_of (Post e) = numbered 7 e.0
step_of Leave = numbered 8 0
step_of (Mask i) = numbered 9 i.0
step_of (Unmask i) = numbered 10 i.0

-- the byte form of a list of calls
abbrev pub form_of : List Call → List ℕ
form_of calls = encode_run (map step_of calls)

-- one step, from a place on

abbrev pub step_at : List ℕ → ℕ → Step
step_at bs place = step_in (slice_index bs place) (slice_index bs (place + 1)) (slice_index bs (place + 2)) (slice_index bs (place + 3))

abbrev pub handed_out : ℕ → Result Call StepRefusal → Result (Option Call) RunFault
handed_out place (Ok c) = Ok (Some c)
handed_out place (Err refusal) = Err (refused_at place refusal)

-- the call of the next step, if four bytes are left
abbrev pub next_call : List ℕ → ℕ → Result (Option Call) RunFault
next_call bs place = cond (nat_le (place + 4) (length bs)) (handed_out place (step_call (step_at bs place))) (Ok None)

-- a fault and the end leave the reader where it is
abbrev pub next_place : ℕ → Result (Option Call) RunFault → ℕ
next_place place (Ok (Some c)) = place + 4
next_place place (Ok None) = place
next_place place (Err fault) = place

-- how many calls
abbrev pub counted : Result (List Call) RunFault → Result ℕ RunFault
counted (Ok calls) = Ok (length calls)
counted (Err fault) = Err fault
