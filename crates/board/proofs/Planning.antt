-- A plan made from tables, stage by stage.
use Rattle.std.proofs.Common.{◌≡◌, ℕ, zero, suc, ◌+◌, ◌^◌, ◌<◌, ◌≤◌, Bool, true, false, not, cond, ◌&&◌, eqb, leb, List, [], ◌∷◌, ◌++◌, map, length, get_or, Some, None, Ok, Err, Option, Result, sym, refl, ap, ◌∙◌, subst, arith, pow_pos}
use Rattle.std.proofs.lemmas.Bool.{eqb-true, ltb-true, leb-true, and_parts}
use Rattle.std.specs.List.{position_from}
use Rattle.std.specs.Prelude.{option_map, position}
use Rattle.std.proofs.lemmas.Iterator.Adapters.{position_from-zero}
use Rattle.board.specs.declared.kinds.PolicyKind.{PolicyKind}
use Rattle.board.specs.declared.kinds.PolicyKind.TheVariants.{Priority, Stay, Shared}
use Rattle.board.specs.declared.kinds.RankRule.{RankRule}
use Rattle.board.specs.declared.kinds.RankRule.TheVariants.{By32, By64, Flat}
use Rattle.numbers.specs.declared.number.TaskNo.{TaskNo}
use Rattle.numbers.specs.declared.set.Set.{Set}
use Rattle.board.specs.declared.refusal.PlanRefusal.{PlanRefusal}
use Rattle.board.specs.declared.refusal.PlanRefusal.TheVariants.{TaskCount, LineCount, EventCount, PolicyNumber, RuleNumber, StartSet, FavouredSet, WakeSet}
use Rattle.board.specs.Kinds.{policy_number, policy_from, rule_number, rule_from}
use Rattle.board.specs.Refusing.{needs, or_else, first, unless, checked}
use Rattle.board.specs.Plans.{Parts, bits_of, count_tests, number_tests, within, wake_tests, set_tests, planned}
use Rattle.board.proofs.Refusing.{first_append, all_passed, needs_met}

-- the numbers of policies and rules
abbrev pub policy_test : ℕ → Option PlanRefusal
policy_test n = needs (leb 1 n && leb n 3) PolicyNumber

abbrev pub rule_test : ℕ → Option PlanRefusal
rule_test n = needs (leb 1 n && leb n 3) RuleNumber

pub policy_legal : (k : PolicyKind) → policy_test (policy_number k) ≡ None
policy_legal Priority = refl
policy_legal Stay = refl
policy_legal Shared = refl

pub rule_legal : (k : RankRule) → rule_test (rule_number k) ≡ None
rule_legal By32 = refl
rule_legal By64 = refl
rule_legal Flat = refl

-- three things with the numbers 1, 2 and 3
module _ {A E : Type 0} (x y z : A) (d : E) where
  abbrev numbered : ℕ → Result A E
  numbered n = cond (eqb n 1) (Ok x) (cond (eqb n 2) (Ok y) (cond (eqb n 3) (Ok z) (Err d)))

  by_tests :
      (a b c : Bool) (P : Result A E → Type 0) → (a ≡ true → P (Ok x)) → (b ≡ true → P (Ok y)) → (c ≡ true → P (Ok z)) →
      (a ≡ false → b ≡ false → c ≡ false → P (Err d)) →
      P (cond a (Ok x) (cond b (Ok y) (cond c (Ok z) (Err d))))
  by_tests true b c P f g h k = f refl
  by_tests false true c P f g h k = g refl
  by_tests false false true P f g h k = h refl
  by_tests false false false P f g h k = k refl refl refl

  number_known :
      (n : ℕ) (number : A → ℕ) → number x ≡ 1 → number y ≡ 2 → number z ≡ 3 → (k : A) → Ok k ≡ numbered n → number k ≡ n
  number_known n number is_x is_y is_z k =
      by_tests (eqb n 1) (eqb n 2) (eqb n 3) (λ r. Ok k ≡ r → number k ≡ n)
      (λ t e. let same : k ≡ x = cc in ap number same ∙ (is_x ∙ sym (eqb-true n 1 t)))
      (λ t e. let same : k ≡ y = cc in ap number same ∙ (is_y ∙ sym (eqb-true n 2 t)))
      (λ t e. let same : k ≡ z = cc in ap number same ∙ (is_z ∙ sym (eqb-true n 3 t)))
      (λ a b c e. let z : ◌≡◌ {A = ℕ} 0 1 = cc in absurd (omega arith))

pub policy_back : (n : ℕ) (k : PolicyKind) → Ok k ≡ policy_from n → policy_number k ≡ n
policy_back n k h = number_known Priority Stay Shared PolicyNumber n policy_number refl refl refl k h

pub rule_back : (n : ℕ) (k : RankRule) → Ok k ≡ rule_from n → rule_number k ≡ n
rule_back n k h = number_known By32 By64 Flat RuleNumber n rule_number refl refl refl k h

policy_known : (n : ℕ) (k : PolicyKind) → Ok k ≡ policy_from n → policy_test n ≡ None
policy_known n k h = subst (λ m. policy_test m ≡ None) (policy_back n k h) (policy_legal k)

rule_known : (n : ℕ) (k : RankRule) → Ok k ≡ rule_from n → rule_test n ≡ None
rule_known n k h = subst (λ m. rule_test m ≡ None) (rule_back n k h) (rule_legal k)

-- the stages of a plan's tests
module _ (p : Parts) where
  abbrev counts : List (Option PlanRefusal)
  counts = count_tests (length p.priorities) (length p.levels) (length p.wakes)

  stages : planned p ≡ unless (or_else (first counts) (or_else (policy_test p.policy) (or_else (rule_test p.rule) (first (set_tests p))))) p
  stages =
      ap (λ f. unless f p) (first_append counts (number_tests p.policy p.rule ++ set_tests p))

  pub by_stages :
      {a b c d : Option PlanRefusal} → first counts ≡ a → policy_test p.policy ≡ b → rule_test p.rule ≡ c → first (set_tests p) ≡ d →
      planned p ≡ unless (or_else a (or_else b (or_else c d))) p
  by_stages ha hb hc hd = rw (← ha, ← hb, ← hc, ← hd) stages

  pub accepted :
      {k : PolicyKind} {r : RankRule} {v : Unit {0}} → first counts ≡ None → Ok k ≡ policy_from p.policy → Ok r ≡ rule_from p.rule →
      Ok v ≡ checked (set_tests p) → Ok p ≡ planned p
  accepted {k} {r} passed policy rule sets =
      sym (by_stages passed (policy_known p.policy k policy) (rule_known p.rule r rule) (all_passed (set_tests p) sets))

-- with counts and numbers passed, the sets are left
pub planned_by_sets :
    (p : Parts) → first (count_tests (length p.priorities) (length p.levels) (length p.wakes)) ≡ None →
    first (number_tests p.policy p.rule) ≡ None → planned p ≡ unless (first (set_tests p)) p
planned_by_sets p counts numbers =
    let n = number_tests p.policy p.rule in
    ap (λ f. unless f p)
    (first_append (count_tests (length p.priorities) (length p.levels) (length p.wakes)) (n ++ set_tests p)
    ∙ (ap (λ f. or_else f (first (n ++ set_tests p))) counts
    ∙ (first_append n (set_tests p) ∙ ap (λ f. or_else f (first (set_tests p))) numbers)))

-- what passed tests say
pub or_else_none : {E : Type 0} (a b : Option E) → or_else a b ≡ None → (a ≡ None) × (b ≡ None)
or_else_none None b h = (refl, h)
or_else_none (Some e) b h = let z : ◌≡◌ {A = ℕ} 0 1 = cc in absurd (omega arith)

pub counts_in_range : (t l n : ℕ) → first (count_tests t l n) ≡ None → (1 ≤ t) × (t ≤ 16) × (l ≤ 16) × (n ≤ 16)
counts_in_range t l n h =
    let a = or_else_none (needs (leb 1 t && leb t 16) TaskCount) _ h in
    let b = or_else_none (needs (leb l 16) LineCount) _ a.1 in
    let c = or_else_none (needs (leb n 16) EventCount) _ b.1 in
    let tasks = and_parts (leb 1 t) (leb t 16) (needs_met TaskCount _ a.0) in (
      leb-true 1 t tasks.0,
      leb-true t 16 tasks.1,
      leb-true l 16 (needs_met LineCount _ b.0),
      leb-true n 16 (needs_met EventCount _ c.0),
    )

wakes_known : (t l e : ℕ) (ws : List ℕ) → first (wake_tests t l e ws) ≡ None → (k : ℕ) → get_or ws k 0 < 2 ^ t
wakes_known t l e [] h k = pow_pos t
wakes_known t l e (w ∷ ws) h zero =
    let a = or_else_none (needs (within w t) (WakeSet t l (record { 0 = e }))) _ h in
    ltb-true w (2 ^ t) (needs_met _ _ a.0)
wakes_known t l e (w ∷ ws) h (suc k) =
    let a = or_else_none (needs (within w t) (WakeSet t l (record { 0 = e }))) _ h in
    wakes_known t l (e + 1) ws a.1 k

pub sets_known :
    (p : Parts) → first (set_tests p) ≡ None →
    (p.start < 2 ^ length p.priorities) × (p.favoured < 2 ^ length p.priorities)
    × ((k : ℕ) → get_or p.wakes k 0 < 2 ^ length p.priorities)
sets_known p h =
    let t = length p.priorities in
    let a = or_else_none (needs (within p.start t) StartSet) _ h in
    let b = or_else_none (needs (within p.favoured t) FavouredSet) _ a.1 in (
      ltb-true p.start (2 ^ t) (needs_met StartSet _ a.0),
      ltb-true p.favoured (2 ^ t) (needs_met FavouredSet _ b.0),
      wakes_known t (length p.levels) 0 p.wakes b.1,
    )

-- the tests of the wake sets by the place of the first set that holds a task that the plan lacks
module _ (t l : ℕ) where
  abbrev pub lacks : Set TaskNo → Bool
  lacks s = not (within s.bits t)

  abbrev pub wake_at : ℕ → PlanRefusal
  wake_at event = WakeSet t l (record { 0 = event })

  pub wakes_searched :
      (event : ℕ) (ws : List (Set TaskNo)) →
      first (wake_tests t l event (map bits_of ws)) ≡ option_map wake_at (position_from lacks event ws)
  wakes_searched event [] = refl
  wakes_searched event (w ∷ ws) = by_test (within w.bits t) _ (wakes_searched (event + 1) ws)
    where
      by_test :
          (b : Bool) {found : Option PlanRefusal} (place : Option ℕ) → found ≡ option_map wake_at place →
          or_else (needs b (wake_at event)) found ≡ option_map wake_at (cond (not b) (Some event) place)
      by_test true place later = later
      by_test false place later = refl

-- with the start set and the favoured set passed, the place of that wake set decides
pub sets_searched :
    (p : Parts) (t l : ℕ) (ws : List (Set TaskNo)) → t ≡ length p.priorities → l ≡ length p.levels → map bits_of ws ≡ p.wakes →
    true ≡ within p.start t → true ≡ within p.favoured t →
    (place : Option ℕ) → place ≡ position (lacks t l) ws → unless (option_map (wake_at t l) place) (tt {0}) ≡ checked (set_tests p)
sets_searched p t l ws tasks lines sets start favoured place is =
    ap (λ f. unless f (tt {0}))
    (ap (option_map (wake_at t l)) (is ∙ position_from-zero (lacks t l) ws)
    ∙ (sym (wakes_searched t l 0 ws)
    ∙ (ap (λ v. first (wake_tests t l 0 v)) sets
    ∙ rw (tasks, lines) (rw (← (rw tasks at start), ← (rw tasks at favoured)) refl))))
