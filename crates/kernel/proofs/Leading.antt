-- Lists of calls, one call longer.
use Rattle.std.proofs.Common.{◌≡◌, ℕ, List, [], ◌∷◌, ◌++◌, sym, refl, ap, ◌∙◌}
use Rattle.board.specs.Plans.{Parts}
use Rattle.kernel.specs.declared.call.Call.{Call}
use Rattle.kernel.specs.Numbers.{routine_number}
use Rattle.kernel.specs.States.{State, start}
use Rattle.kernel.specs.Rules.{Chooses, Ranks, apply}
use Rattle.kernel.specs.Histories.{Follows, History, Leads, after, run, step}

module _ (plan : Parts) (choose : Chooses) (rank : Ranks) where
  run_more : (calls : List Call) (c : Call) (h : History) → run plan choose rank (calls ++ (c ∷ [])) h ≡ step plan choose rank c (run plan choose rank calls h)
  unfolding run
  run_more [] c h = refl
  run_more (d ∷ calls) c h = run_more calls c (step plan choose rank d h)

  step_state : (c : Call) (h : History) → (step plan choose rank c h).state ≡ (apply plan choose rank c h.state).0
  unfolding step
  step_state c h = refl

  pub leads_more : (c : Call) (s later : State) → later ≡ (apply plan choose rank c s).0 → (calls : List Call)
      → Leads plan choose rank calls s → Leads plan choose rank (calls ++ (c ∷ [])) later
  leads_more c s later e calls h =
      ap (λ (x : History). x.state) (run_more calls c _) ∙ (step_state c (after plan choose rank calls) ∙ (ap (λ (x : State). (apply plan choose rank c x).0) h ∙ sym e))

  pub leads_none : Leads plan choose rank [] (start plan)
  unfolding run
  leads_none = refl

  -- from the parts of a call's outcome
  pub follows_from : (c : Call) (s later : State) (a n : ℕ) → later ≡ (apply plan choose rank c s).0 → a ≡ (apply plan choose rank c s).1 → n ≡ routine_number later.active
      → Follows plan choose rank c s later (a, n)
  follows_from c s later a n e f k =
      record {
        state = e;
        numbers =
            ap (λ (x : ℕ). (x, n)) f ∙ ap (λ (x : ℕ). ((apply plan choose rank c s).1, x)) (k ∙ ap (λ (w : State). routine_number w.active) e);
        leads = leads_more c s later e;
      }
