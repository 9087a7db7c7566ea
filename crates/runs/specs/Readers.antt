-- What opening a run answers.
use Rattle.std.specs.Prelude.{◌≡◌, ℕ, List, Some, None, Ok, Err, Result}
use Rattle.board.specs.Refusing.{first}
use Rattle.runs.specs.declared.fault.RunFault.{RunFault}
use Rattle.runs.specs.declared.reader.RunReader.{RunReader}
use Rattle.runs.specs.Runs.{opening_tests}

-- a reader over the bytes, at the first step; or the first fault
abbrev pub Opened : List ℕ → Result RunReader RunFault → Type 0
Opened bs (Ok reader) = (first (opening_tests bs) ≡ None) × (reader.bytes.now ≡ bs) × (reader.place ≡ 5)
Opened bs (Err fault) = first (opening_tests bs) ≡ Some fault
