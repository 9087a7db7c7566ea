use Rattle.std.proofs.Common.{ap, ◌∙◌, arith}
use Rattle.numbers.specs.Sets.{minus}
use Rattle.numbers.proofs.Members.{and_not, minus_bit}
use Rattle.numbers.proofs.set.Set.without.Goals as goal

pub returns : goal.returns
returns g c =
    let s = c.args.self.bits in
    c.from_bits.ensures
    ∙ (and_not s c.bit.result (omega arith) (omega arith) ∙ (ap (minus s) c.bit.ensures ∙ minus_bit s _ (omega arith)))
