-- A record is changed in its table, and in the table of the rules in the same way.
use Rattle.std.proofs.Common.{◌≡◌, ℕ, ◌<◌, false, List, length, get_or, set, sym, ap, ◌∙◌}
use Rattle.std.proofs.lemmas.List.{get_or-map, map-set}
use Rattle.kernel.specs.declared.place.TaskPlace.TheVariants.{Application}
use Rattle.kernel.specs.States.{Record, fresh}
use Rattle.system.specs.declared.table.TaskRecord.{TaskRecord}
use Rattle.system.specs.Tables.{noted, noted_all}

-- what the code reads where nothing is
abbrev pub blank : TaskRecord
blank = record { place = Application; resume = false; kept = record { bits = 0; kind = record {} } }

pub noted_get : (rs : List TaskRecord) (n : ℕ) (d : TaskRecord) → n < length rs → noted (get_or rs n d) ≡ get_or (noted_all rs) n fresh
noted_get rs n d h = sym (get_or-map noted rs n d fresh h)

pub noted_set : (rs : List TaskRecord) (n : ℕ) (r : TaskRecord) → noted_all (set rs n r) ≡ set (noted_all rs) n (noted r)
noted_set rs n r = map-set noted rs n r

pub noted_change : (rs : List TaskRecord) (n : ℕ) (r : TaskRecord) (f : Record → Record) → n < length rs → noted r ≡ f (noted (get_or rs n blank)) → noted_all (set rs n r) ≡ set (noted_all rs) n (f (get_or (noted_all rs) n fresh))
noted_change rs n r f h e = noted_set rs n r ∙ ap (λ v. set (noted_all rs) n v) (e ∙ ap f (noted_get rs n blank h))
