-- States and answers of lists, call by call.
use Rattle.std.proofs.Common.{◌≡◌, ℕ, suc, List, [], ◌∷◌, ◌++◌, length, refl, ap, ◌∙◌}
use Rattle.board.specs.Plans.{Parts}
use Rattle.kernel.specs.declared.call.Call.{Call}
use Rattle.kernel.specs.States.{State, start}
use Rattle.kernel.specs.Rules.{Chooses, Ranks, apply, numbers}
use Rattle.kernel.specs.Histories.{Answered, History, after, answers, run, state_after, step, told}

module _ (plan : Parts) (choose : Chooses) (rank : Ranks) where
  pub state_none : (s : State) → s ≡ state_after plan choose rank [] s
  unfolding state_after
  state_none s = refl

  pub state_more : (calls : List Call) (c : Call) (s : State) → state_after plan choose rank (calls ++ (c ∷ [])) s ≡ (apply plan choose rank c (state_after plan choose rank calls s)).0
  unfolding state_after
  state_more [] c s = refl
  state_more (d ∷ calls) c s = state_more calls c (apply plan choose rank d s).0

  pub answers_none : (s : State) → [] ≡ answers plan choose rank [] s
  unfolding answers
  answers_none s = refl

  pub answers_more : (calls : List Call) (c : Call) (s : State)
      → answers plan choose rank (calls ++ (c ∷ [])) s ≡ answers plan choose rank calls s ++ (numbers (apply plan choose rank c (state_after plan choose rank calls s)) ∷ [])
  unfolding answers state_after
  answers_more [] c s = refl
  answers_more (d ∷ calls) c s = ap (λ l. numbers (apply plan choose rank d s) ∷ l) (answers_more calls c (apply plan choose rank d s).0)

  pub answers_length : (calls : List Call) (s : State) → length (answers plan choose rank calls s) ≡ length calls
  unfolding answers
  answers_length [] s = refl
  answers_length (c ∷ calls) s = ap suc (answers_length calls (apply plan choose rank c s).0)

  run_state : (calls : List Call) (h : History) → (run plan choose rank calls h).state ≡ state_after plan choose rank calls h.state
  unfolding run step state_after
  run_state [] h = refl
  run_state (c ∷ calls) h = run_state calls (step plan choose rank c h)

  pub after_state : (calls : List Call) → (after plan choose rank calls).state ≡ state_after plan choose rank calls (start plan)
  after_state calls = run_state calls _

  told_run : (calls : List Call) (s : State) (past : List Answered) (more : List (ℕ × ℕ))
      → told calls (answers plan choose rank calls s ++ more) past ≡ (run plan choose rank calls (record { state = s; past = past })).past
  unfolding run step answers
  told_run [] s past more = refl
  told_run (c ∷ calls) s past more =
      let outcome = apply plan choose rank c s in told_run calls outcome.0 (record { call = c; answer = outcome.1 } ∷ past) more

  -- a row of answers tells what the calls answered
  pub told_after : (calls : List Call) (row more : List (ℕ × ℕ)) → row ≡ answers plan choose rank calls (start plan) ++ more
      → told calls row [] ≡ (after plan choose rank calls).past
  told_after calls row more e = ap (λ (r : List (ℕ × ℕ)). told calls r []) e ∙ told_run calls (start plan) [] more
