-- The number, the place and the layer of each fault of a drive.
use Rattle.formats.specs.declared.fault.Layer.TheVariants as layer
use Rattle.formats.specs.declared.fault.Refusal.{Refusal}
use Rattle.formats.specs.Faults.{plan_refusal}
use Rattle.runs.specs.Faults.{run_refusal}
use Rattle.driver.specs.declared.fault.DriveFault.{DriveFault}
use Rattle.driver.specs.declared.fault.DriveFault.TheVariants.{Plan, Run, Buffer}

-- the faults of the plan and of the run keep their own; the drive's own fault has the drive's layer
abbrev pub drive_refusal : DriveFault → Refusal
drive_refusal (Plan fault) = plan_refusal fault
drive_refusal (Run fault) = run_refusal fault
drive_refusal (Buffer length) = record { number = 10; place = length; layer = layer.Drive }
