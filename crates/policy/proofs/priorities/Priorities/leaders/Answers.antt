use Rattle.std.proofs.Common.{ℕ, ◌^◌, sym, ap, ◌∙◌}
use lib.Bits.{bit_or}
use Rattle.std.proofs.lemmas.Bool.{cond-true, lt-ltb}
use Rattle.numbers.specs.declared.number.TaskNo.{TaskNo}
use Rattle.numbers.specs.declared.set.Set.{Set}
use Rattle.policy.specs.Priorities.{member_of_priority}
use Rattle.numbers.proofs.Gathering.{gathered_none, gathered_more_yes, gathered_more_no}
use Rattle.policy.proofs.priorities.Priorities.leaders.Goals as goal
use Rattle.policy.proofs.priorities.Priorities.leaders.Goals.{then-member_of_priority, else-member_of_priority}

abbrev bits : Set TaskNo → ℕ
bits v = v.bits

pub loop-t-init : goal.loop-t-init
loop-t-init c =
    c.from_bits-found.ensures
    ∙ sym (gathered_none (member_of_priority c.args.self.now.of c.args.set.bits c.highest-high.result))

pub loop-t-preserved : goal.loop-t-preserved
loop-t-preserved c =
    let p = member_of_priority c.args.self.now.of c.args.set.bits c.highest-high.result in
    let t = c.loop-t.t in
    elim c.if-member_of_priority.branch [
      | then-member_of_priority w ↦
          (ap bits w.found-is
          ∙ (w.with-found.ensures
          ∙ (cond-true _ _ _ (lt-ltb t 16 c.loop-t-test.true)
          ∙ (ap (λ s. bit_or s (2 ^ t)) c.loop-t.invariant ∙ sym (gathered_more_yes p t w.if-member_of_priority.ensures)))))
      | else-member_of_priority w ↦
          (ap bits w.found-is ∙ (c.loop-t.invariant ∙ sym (gathered_more_no p t w.if-member_of_priority.ensures)))
    ]
