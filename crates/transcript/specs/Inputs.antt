-- What driving a program's input answers.
use Rattle.std.specs.Prelude.{ℕ, List, length, Ok, Err, Result, nat_lt, if◌then◌else◌}
use Rattle.driver.specs.declared.fault.DriveFault.{DriveFault}
use Rattle.driver.specs.Driven.{driven}
use Rattle.report.specs.declared.fault.ProgramFault.{ProgramFault}
use Rattle.report.specs.declared.fault.ProgramFault.TheVariants.{TooLong, Drive}

abbrev pub of_drive : Result (ℕ × List ℕ) DriveFault → Result (ℕ × List ℕ) ProgramFault
of_drive (Ok answer) = Ok answer
of_drive (Err fault) = Err (Drive fault)

-- the number of steps and the buffer that is left; at most 65,536 bytes are driven
abbrev pub driven_input : List ℕ → List ℕ → Result (ℕ × List ℕ) ProgramFault
driven_input bs out = if nat_lt 65536 (length bs) then Err TooLong else of_drive (driven bs out)

abbrev pub left_input : Result ℕ ProgramFault → List ℕ → Result (ℕ × List ℕ) ProgramFault
left_input (Ok n) out = Ok (n, out)
left_input (Err fault) out = Err fault
