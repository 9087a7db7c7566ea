use Rattle.std.proofs.Common.{◌≡◌, ◌<◌, List, [], ◌++◌, length, drop, sym, ap, ◌∙◌, subst, arith}
use Rattle.numbers.specs.declared.number.LineNo.{LineNo}
use Rattle.board.specs.Ranks.{rank_bound}
use Rattle.board.specs.Viewed.{parts}
use Rattle.board.proofs.Legality.{plan_legal}
use Rattle.kernel.specs.Afterwards.{SoundHistory}
use Rattle.kernel.specs.Histories.{Answered, Leads, after, answers, told}
use Rattle.kernel.specs.Rules.{Chooses, Ranks, lines}
use Rattle.kernel.specs.States.{start}
use Rattle.kernel.proofs.Agreeing.{same_after, same_answers}
use Rattle.kernel.proofs.Legal.{legal}
use Rattle.kernel.proofs.Listing.{after_state, told_after}
use Rattle.kernel.proofs.Whole.{sound_where_led}
use Rattle.machine.specs.Machines.{ranks_of, state_of}
use Rattle.machine.proofs.listing.apply_from_start.Goals as goal

pub returns : goal.returns
returns g c =
    let plan = c.args.plan in
    let policy = c.args.policy in
    let calls = c.args.calls.now in
    let before = c.args.out.now in
    let begun = c.start-machine.ensures in
    let done = c.apply_all.ensures in
    let p = parts plan in
    let choose : Chooses = g.P.Policy.chosen policy in
    let kept : Ranks = ranks_of c.start-machine.result in
    let rank : Ranks = g.N.NestingRule.ranked c.args.rule.now in
    let owes = g.met.P.Policy in
    let few = (legal p (plan_legal plan)).few_lines in
    let same : (i : LineNo) → i.0 < lines p → kept i ≡ rank i = λ i l. begun.ranks i (omega arith) in
    let ends = after_state p choose kept calls in
    let led_alike = same_after p choose kept rank same calls in
    let told_alike = same_answers p choose kept rank same calls in
    let led : Leads p choose rank calls (state_of c.apply_all.new.self) = cc in
    let written : c.apply_all.new.out ≡ answers p choose rank calls (start p) ++ drop (length calls) before = cc in
    let past : told calls c.apply_all.new.out [] ≡ (after p choose rank calls).past = told_after p choose rank calls c.apply_all.new.out (drop (length calls) before) written in
    record {
      fits = omega arith;
      state = sym led;
      out = written;
      sound =
          subst (λ (l : List Answered). SoundHistory p choose rank (record { state = state_of c.apply_all.new.self; past = l })) (sym past)
          (sound_where_led p choose rank (plan_legal plan)
          (record { member = owes.member policy; settles = owes.settles policy })
          (record { bound = rank_bound; bounded = g.met.N.NestingRule.bounded c.args.rule.now })
          (state_of c.apply_all.new.self) calls led);
      leads = cc;
      same_ranks = λ i l. ap (λ (ranks : Ranks). ranks i) done.ranks ∙ begun.ranks i l;
      same_plan = done.plan ∙ begun.plan;
      same_policy = done.policy ∙ begun.policy;
    }
