-- Answers to questions by number.
use Rattle.std.specs.Prelude.{ℕ, cond, Ok, Err, Option, Result, nat_lt}
use Rattle.std.specs.Option.{ok_or}
use Rattle.kernel.specs.States.{Record}
use Rattle.machine.specs.declared.asking.Unknown.{Unknown}
use Rattle.system.specs.declared.table.TaskRecord.{TaskRecord}
use Rattle.system.specs.Tables.{noted}

-- refused from the count on
abbrev pub asked : {A : Type 0} → ℕ → ℕ → A → Result A Unknown
asked n count value = cond (nat_lt n count) (Ok value) (Err (record {}))

abbrev pub found : {A : Type 0} → Option A → Result A Unknown
found o = ok_or o (record {})

-- the record that is answered, as the rules speak of it
abbrev pub noted_answer : Result TaskRecord Unknown → Result Record Unknown
noted_answer (Ok r) = Ok (noted r)
noted_answer (Err e) = Err e
