use Rattle.std.proofs.Common.{◌≡◌, ◌*◌, ◌++◌, map, take, drop}
use Rattle.board.specs.Plans.{bits_of}
use Rattle.formats.specs.Wire.{twos}
use Rattle.formats.proofs.write.put_sets.Given as goal

abbrev pub invariant-loop-i : goal.invariant-loop-i
invariant-loop-i l = l.out ≡ twos (map bits_of (take l.i l.sets)) ++ drop (2 * l.i) l.initial.out
