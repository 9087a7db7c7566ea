-- Every plan is legal: its own tables make it.
use Rattle.std.proofs.Common.{◌≡◌, ℕ, suc, ◌+◌, ◌^◌, ◌<◌, ◌≤◌, Bool, true, false, ◌&&◌, leb, List, [], ◌∷◌, map, length, get_or, None, Ok, Option, sym, refl, ap, ◌∙◌, subst, arith}
use Rattle.std.proofs.lemmas.Bool.{lt-ltb, le-leb, and_from}
use Rattle.board.specs.declared.plan.Plan.{Plan}
use Rattle.board.specs.declared.refusal.PlanRefusal.TheVariants.{TaskCount, LineCount, EventCount, StartSet, FavouredSet, WakeSet}
use Rattle.board.specs.Refusing.{needs, or_else, first}
use Rattle.board.specs.Plans.{bits_of, within, count_tests, wake_tests, set_tests, planned}
use Rattle.board.specs.Viewed.{parts}
use Rattle.board.proofs.Padding.{get_or_padded}
use Rattle.board.proofs.Planning.{by_stages, policy_legal, rule_legal}

met : {E : Type 0} (e : E) (b : Bool) (o : Option E) → b ≡ true → o ≡ None → or_else (needs b e) o ≡ None
met e true o h none = none
met e false o h none = let z : ◌≡◌ {A = ℕ} 0 1 = false_is_true h in absurd (omega arith)
  where
    false_is_true : false ≡ true → ◌≡◌ {A = ℕ} 0 1
    false_is_true k = cc

counts_met : (t l n : ℕ) → 1 ≤ t → t ≤ 16 → l ≤ 16 → n ≤ 16 → first (count_tests t l n) ≡ None
counts_met t l n some a b c =
    met TaskCount (leb 1 t && leb t 16) _ (and_from _ _ (le-leb 1 t some) (le-leb t 16 a))
    (met LineCount (leb l 16) _ (le-leb l 16 b) (met EventCount (leb n 16) None (le-leb n 16 c) refl))

wakes_met : (t l e : ℕ) (ws : List ℕ) → ((k : ℕ) → get_or ws k 0 < 2 ^ t) → first (wake_tests t l e ws) ≡ None
wakes_met t l e [] h = refl
wakes_met t l e (w ∷ ws) h =
    met (WakeSet t l (record { 0 = e })) (within w t) _ (lt-ltb w (2 ^ t) (h 0)) (wakes_met t l (e + 1) ws (λ k. h (suc k)))

module _ (p : Plan) where
  tasks : length (parts p).priorities ≡ p.priorities.count
  tasks = p.priorities_filled.counted

  lines : length (parts p).levels ≡ p.levels.count
  lines = p.levels_filled.counted

  events : length (parts p).wakes ≡ p.wakes.count
  events = p.wakes_filled.counted

  wake_small : (k : ℕ) → get_or (parts p).wakes k 0 < 2 ^ p.priorities.count
  wake_small k =
      let e : get_or (parts p).wakes k 0 ≡ get_or (map bits_of p.wakes.places) k 0 =
      sym (get_or_padded (parts p).wakes _ k) ∙ ap (λ (v : List ℕ). get_or v k 0) p.wakes_filled.zeros_after in
      subst (λ v. v < 2 ^ p.priorities.count) (sym e) (p.known_wakes k)

  sets_met : first (set_tests (parts p)) ≡ None
  sets_met =
      let set : (s : ℕ) → s < 2 ^ p.priorities.count → within s (length (parts p).priorities) ≡ true =
      λ s low. lt-ltb s _ (subst (λ t. s < 2 ^ t) (sym tasks) low) in
      met StartSet _ _ (set p.start.bits p.known_start)
      (met FavouredSet _ _ (set p.favoured.bits p.known_favoured)
      (wakes_met (length (parts p).priorities) (length (parts p).levels) 0 (parts p).wakes
      (λ k. subst (λ t. get_or (parts p).wakes k 0 < 2 ^ t) (sym tasks) (wake_small k))))

  pub plan_legal : planned (parts p) ≡ Ok (parts p)
  plan_legal =
      by_stages (parts p)
      (counts_met _ _ _ (subst (λ t. 1 ≤ t) (sym tasks) p.some) (subst (λ t. t ≤ 16) (sym tasks) p.priorities_filled.few)
      (subst (λ t. t ≤ 16) (sym lines) p.levels_filled.few) (subst (λ t. t ≤ 16) (sym events) p.wakes_filled.few))
      (policy_legal p.policy) (rule_legal p.rule) sets_met
