-- What the run writer answers, and what it leaves in the buffer.
use Rattle.std.specs.Prelude.{ℕ, ◌+◌, ◌*◌, ◌<◌, List, [], ◌∷◌, ◌++◌, length, drop, Ok, Err, Option, Result, nat_le, slice_index_or}
use Rattle.board.specs.Refusing.{first, needs, unless}
use Rattle.runs.specs.declared.fault.RunFault.{RunFault}
use Rattle.runs.specs.declared.fault.RunFault.TheVariants.{Many, Buffer}
use Rattle.runs.specs.declared.step.Step.{Step}
use Rattle.runs.specs.Runs.{encode_run, steps_tests}

-- every set is a number of two bytes
abbrev pub TwoByteSets : List Step → Type 0
TwoByteSets steps = (k : ℕ) → k < length steps → (slice_index_or steps k (record { code = 0; number = 0; set = 0 })).set < 65536

abbrev pub run_size : List Step → ℕ
run_size steps = 5 + 4 * length steps

-- the tests of the writer, in their order: those of the reader, at the reader's places, and then the buffer's
abbrev pub write_tests : List Step → List ℕ → List (Option RunFault)
write_tests steps out =
    needs (nat_le (length steps) 65535) Many
    ∷ (steps_tests 5 steps ++ (needs (nat_le (run_size steps) (length out)) (Buffer (length out)) ∷ []))

abbrev pub wrote_run : List Step → List ℕ → Result ℕ RunFault
wrote_run steps out = unless (first (write_tests steps out)) (run_size steps)

-- the run and what stood after it; or the buffer as found
abbrev pub left_run : Result ℕ RunFault → List Step → List ℕ → List ℕ
left_run (Ok size) steps out = encode_run steps ++ drop size out
left_run (Err fault) steps out = out
