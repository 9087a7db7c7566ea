use Rattle.std.proofs.Common.{eqb, not, ap, ◌∙◌, arith}
use lib.Bits.{bit_and}
use Rattle.numbers.proofs.Members.{has_by_bit}
use Rattle.numbers.proofs.set.Set.contains.Goals as goal

pub returns : goal.returns
returns g c =
    let s = c.args.self.bits in
    ap (λ b. not (eqb (bit_and s b) 0)) c.bit.ensures ∙ has_by_bit s _ (omega arith)
