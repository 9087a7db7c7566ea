use Rattle.std.proofs.Common.{◌≡◌, ◌^◌, length, take, None, Ok, sym, refl, ap, ◌∙◌}
use Rattle.std.proofs.lemmas.List.{length-map}
use Rattle.board.specs.declared.plan.Counts.{Counts}
use Rattle.board.specs.declared.plan.Tables.{Tables}
use Rattle.board.specs.Kinds.{policy_number, rule_number}
use Rattle.board.specs.Refusing.{first}
use Rattle.board.specs.Plans.{bits_of, count_tests, set_tests}
use Rattle.board.specs.Viewed.{counted, given}
use Rattle.board.proofs.Refusing.{all_passed, found_nothing}
use Rattle.board.proofs.Padding.{filled, places_known, sets_filled, take_padded}
use Rattle.board.proofs.Planning.{policy_back, rule_back, accepted, counts_in_range, sets_known}
use Rattle.board.proofs.plan.Plan.from_tables.Goals as goal

-- the counts are those of the parts
parts_tests : (t : Tables) →
    count_tests (length t.priorities.now) (length t.levels.now) (length t.wakes.now)
    ≡ count_tests (length (given t).priorities) (length (given t).levels) (length (given t).wakes)
parts_tests t = ap (count_tests (length t.priorities.now) (length t.levels.now)) (sym (length-map t.wakes.now bits_of))

module _ (t : Tables) {c : Counts} (h : Ok c ≡ counted (length t.priorities.now) (length t.levels.now) (length t.wakes.now)) where
  passed : first (count_tests (length (given t).priorities) (length (given t).levels) (length (given t).wakes)) ≡ None
  passed = ap first (sym (parts_tests t)) ∙ found_nothing _ _ h

pub invariant_of-result : goal.invariant_of-result
invariant_of-result c =
    let t = c.args.tables.now in
    let ps = t.priorities.now in
    let ls = t.levels.now in
    let ws = t.wakes.now in
    let n = counts_in_range (length ps) (length ls) (length ws) (found_nothing _ _ c.in_ok-counts.ensures) in
    let s = sets_known (given t) (all_passed (set_tests (given t)) c.in_ok-check_sets.ensures) in
    let wakes = places_known ws c.new-3.result.places _ c.from_bits.ensures c.new-3.ensures.places (2 ^ length ps) s.2 in
    let tasks : c.new.result.count ≡ length ps = c.new.ensures.count in
    record {
      some = rw tasks n.0;
      known_start = rw tasks s.0;
      known_favoured = rw tasks s.1;
      known_wakes = rw tasks wakes;
      priorities_filled = filled ps _ _ c.new.ensures.count n.1 c.new.ensures.places;
      levels_filled = filled ls _ _ c.new-2.ensures.count n.2 c.new-2.ensures.places;
      wakes_filled = sets_filled ws _ _ c.from_bits.ensures c.new-3.ensures.places _ c.new-3.ensures.count n.3;
    }

pub returns : goal.returns
returns c =
    let t = c.args.tables.now in
    let policy : policy_number c.in_ok-policy.policy ≡ t.policy = policy_back _ _ c.in_ok-policy.ensures in
    let rule : rule_number c.in_ok-rule.rule ≡ t.rule = rule_back _ _ c.in_ok-rule.ensures in
    let tasks : c.new.result.count ≡ length t.priorities.now = c.new.ensures.count in
    let lines : c.new-2.result.count ≡ length t.levels.now = c.new-2.ensures.count in
    let events : c.new-3.result.count ≡ length t.wakes.now = c.new-3.ensures.count in
    let ps : take (length t.priorities.now) c.new.result.places ≡ t.priorities.now = take_padded 0 _ _ c.new.ensures.places in
    let ls : take (length t.levels.now) c.new-2.result.places ≡ t.levels.now = take_padded 0 _ _ c.new-2.ensures.places in
    let ws : take (length t.wakes.now) c.new-3.result.places ≡ t.wakes.now = take_padded _ _ _ c.new-3.ensures.places in
    ap Ok (rw (policy, rule, tasks, lines, events, ps, ls, ws) refl)
    ∙ accepted (given t) (passed t c.in_ok-counts.ensures) c.in_ok-policy.ensures
    c.in_ok-rule.ensures c.in_ok-check_sets.ensures
