-- What a writer answers, and what it leaves in the buffer.
use Rattle.std.specs.Prelude.{ℕ, List, ◌++◌, length, drop, Ok, Err, Result, if◌then◌else◌, nat_lt}
use Rattle.std.proofs.Math.Seq.{paste}
use Rattle.formats.specs.declared.fault.PlanFault.{PlanFault}
use Rattle.formats.specs.declared.fault.PlanFault.TheVariants.{Buffer}

-- a buffer with some bytes written from a place on
abbrev pub placed : List ℕ → ℕ → List ℕ → List ℕ
placed out at bytes = paste out at bytes (length bytes)

-- the size of the bytes, or the buffer is too short
abbrev pub wrote : List ℕ → List ℕ → Result ℕ PlanFault
wrote bytes out = if nat_lt (length out) (length bytes) then Err (Buffer (length out)) else Ok (length bytes)

-- the bytes, and what stood after them; or the buffer as found
abbrev pub left : List ℕ → List ℕ → List ℕ
left bytes out = if nat_lt (length out) (length bytes) then out else bytes ++ drop (length bytes) out
