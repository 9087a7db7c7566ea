use Rattle.std.proofs.Common.{ap, ◌∙◌}
use lib.Bits.{bit_or}
use Rattle.numbers.proofs.Members.{with_bit}
use Rattle.numbers.proofs.set.Set.with.Goals as goal

pub returns : goal.returns
returns g c =
    let s = c.args.self.bits in
    c.from_bits.ensures ∙ (ap (bit_or s) c.bit.ensures ∙ with_bit s _)
