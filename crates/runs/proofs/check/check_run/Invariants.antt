use Rattle.std.proofs.Common.{◌≡◌, ◌+◌, ◌*◌}
use Rattle.runs.proofs.Counts.{Counting}
use Rattle.runs.proofs.check.check_run.Given as goal

abbrev pub invariant-loop : goal.invariant-loop
invariant-loop l = record { bytes : l.reader.bytes.now ≡ l.bytes; place : l.reader.place ≡ 5 + 4 * l.counter; counting : Counting l.bytes l.counter }
