use Rattle.std.proofs.Common.{◌∙◌, arith}
use Rattle.std.proofs.lemmas.Bool.{le-leb}
use Rattle.numbers.proofs.Members.{within_shift, within_all, within_members}
use Rattle.numbers.proofs.set.Set.within.Goals as goal

pub returns-then-count-ge16 : goal.returns-then-count-ge16
returns-then-count-ge16 g c =
    let s = c.args.self.bits in
    let all = le-leb 16 c.args.count c.if-count-ge16.true ∙ within_all s c.args.count (omega arith) c.if-count-ge16.true in
    let w = within_members s c.args.count _ (omega arith) all in
    record { is = w.is; yes = w.yes; no = w.no }

pub returns-else-count-ge16 : goal.returns-else-count-ge16
returns-else-count-ge16 g c =
    let s = c.args.self.bits in
    let w = within_members s c.args.count _ (omega arith) (within_shift s c.args.count) in
    record { is = w.is; yes = w.yes; no = w.no }
