-- The number, the place and the layer of a program's fault, and the line that tells them.
use Rattle.std.specs.Prelude.{ℕ, List, [], ◌∷◌, ◌++◌, codes, decimal}
use Rattle.formats.specs.declared.fault.Layer.TheVariants as layer
use Rattle.formats.specs.declared.fault.Refusal.{Refusal}
use Rattle.formats.specs.Faults.{layer_number, plan_refusal}
use Rattle.driver.specs.Faults.{drive_refusal}
use Rattle.report.specs.declared.fault.ProgramFault.{ProgramFault}
use Rattle.report.specs.declared.fault.ProgramFault.TheVariants.{TooLong, Plan, Drive}

-- the faults of the plan and of the drive keep their own number, place and layer
abbrev pub program_refusal : ProgramFault → Refusal
program_refusal TooLong = record { number = 21; place = 65536; layer = layer.Program }
program_refusal (Plan fault) = plan_refusal fault
program_refusal (Drive fault) = drive_refusal fault

abbrev pub line_of : Refusal → List ℕ
line_of r = codes "refused " ++ decimal r.number ++ codes " " ++ decimal r.place ++ codes " " ++ decimal (layer_number r.layer) ++ (10 ∷ [])

-- refused NUMBER PLACE LAYER
abbrev pub refusal_line : ProgramFault → List ℕ
refusal_line fault = line_of (program_refusal fault)
