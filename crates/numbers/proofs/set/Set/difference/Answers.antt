use Rattle.std.proofs.Common.{◌∙◌, arith}
use Rattle.numbers.proofs.Members.{and_not}
use Rattle.numbers.proofs.set.Set.difference.Goals as goal

pub returns : goal.returns
returns g c = c.from_bits.ensures ∙ and_not c.args.self.bits c.args.other.bits (omega arith) (omega arith)
