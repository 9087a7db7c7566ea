-- The number, the place and the layer of each fault of a run.
use Rattle.std.specs.Prelude.{ℕ}
use Rattle.formats.specs.declared.fault.Layer.TheVariants as layer
use Rattle.formats.specs.declared.fault.Refusal.{Refusal}
use Rattle.runs.specs.declared.fault.RunFault.{RunFault}
use Rattle.runs.specs.declared.fault.RunFault.TheVariants.{Short, Mark, Version, Cut, Many, Code, Unused, Buffer}

abbrev pub run_number : RunFault → ℕ
run_number (Short length) = 1
run_number Mark = 2
run_number Version = 3
run_number (Cut place) = 1
run_number Many = 9
run_number (Code place) = 7
run_number (Unused place) = 8
run_number (Buffer length) = 10

-- 262,145 is the place of step 65,535
abbrev pub run_place : RunFault → ℕ
run_place (Short length) = length
run_place Mark = 0
run_place Version = 3
run_place (Cut place) = place
run_place Many = 262145
run_place (Code place) = place
run_place (Unused place) = place
run_place (Buffer length) = length

-- a run's fault has the run's layer
abbrev pub run_refusal : RunFault → Refusal
run_refusal fault = record { number = run_number fault; place = run_place fault; layer = layer.Run }
