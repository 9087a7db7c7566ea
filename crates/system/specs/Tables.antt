-- The records of the tasks, as the rules speak of them.
use Rattle.std.specs.Prelude.{List, map}
use Rattle.kernel.specs.States.{Record}
use Rattle.system.specs.declared.table.TaskRecord.{TaskRecord}

abbrev pub noted : TaskRecord → Record
noted r = record { place = r.place; resume = r.resume; kept = r.kept.bits }

abbrev pub noted_all : List TaskRecord → List Record
noted_all records = map noted records
