use Rattle.std.proofs.Common.{◌≡◌, suc, ◌+◌, ◌-◌, sym, ap, ◌∙◌, arith}
use Rattle.policy.specs.Policies.{counted, first_from, stay}
use Rattle.policy.specs.Staying.{first_here, first_next, first_end}
use Rattle.policy.proofs.nearest.nearest.Goals as goal

pub returns-then-contains : goal.returns-then-contains
unfolding stay
returns-then-contains c =
    let s = c.args.set.bits in
    let i = c.loop-i._i in
    let from : c.min-at.result ≡ counted c.args.from = omega (arith, c.min-at.ensures) in
    let n : 16 - i ≡ suc (15 - i) = omega arith in
    sym
    (ap (first_from 16 s) (sym from)
    ∙ (c.loop-i.invariant.2
    ∙ (ap (λ k. first_from k s c.loop-i.at) n
    ∙ first_here (15 - i) s c.loop-i.at (sym c.if-contains.ensures))))

pub loop-i-preserved : goal.loop-i-preserved
loop-i-preserved c =
    let s = c.args.set.bits in
    let i = c.loop-i._i in
    let n : 16 - i ≡ suc (16 - (i + 1)) = omega arith in (
      omega arith,
      omega arith,
      c.loop-i.invariant.2
          ∙ (ap (λ k. first_from k s c.loop-i.at) n
          ∙ first_next (16 - (i + 1)) s c.loop-i.at (sym c.if-contains.ensures)),
    )

pub returns : goal.returns
unfolding stay
returns c =
    let s = c.args.set.bits in
    let from : c.min-at.result ≡ counted c.args.from = omega (arith, c.min-at.ensures) in
    let n : 16 - c.loop-i._i ≡ 0 = omega arith in
    sym
    (ap (first_from 16 s) (sym from)
    ∙ (c.loop-i.invariant.2 ∙ (ap (λ k. first_from k s c.loop-i.at) n ∙ first_end s c.loop-i.at)))
