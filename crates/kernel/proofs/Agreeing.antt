-- Ranks that agree on the plan's lines lead to the same states and answers.
use Rattle.std.proofs.Common.{◌≡◌, ℕ, ◌<◌, Bool, true, false, not, ltb, List, [], ◌∷◌, sym, refl, ap, ◌∙◌}
use Rattle.std.proofs.lemmas.Bool.{ltb-true}
use Rattle.numbers.specs.declared.number.LineNo.{LineNo}
use Rattle.numbers.specs.declared.number.TaskNo.{TaskNo}
use Rattle.numbers.specs.Sets.{has}
use Rattle.board.specs.Plans.{Parts}
use Rattle.kernel.specs.declared.call.Call.{Call}
use Rattle.kernel.specs.declared.call.Call.TheVariants.{Raise, Enter, Pend, Go, Signal, Block, Post, Leave, Mask, Unmask}
use Rattle.kernel.specs.States.{State, start}
use Rattle.kernel.specs.Rules.{Chooses, Outcome, Ranks, apply, enter_line, gives_way, lines, nested, numbers, provided}
use Rattle.kernel.specs.Histories.{Answered, History, after, answers, run, step}
use Rattle.kernel.proofs.Cases.{Base, Case, alone, under, shaped, top, Held, held, held_step, held_start}
use Rattle.kernel.proofs.Nesting.{Nests, Rising, nests_keeps}

module _ (plan : Parts) (choose : Chooses) (f g : Ranks) (same : (i : LineNo) → i.0 < lines plan → f i ≡ g i) where
  same_way : (i : LineNo) (hs : List LineNo) (b : Base) (c : TaskNo) → i.0 < lines plan → Rising f (lines plan) hs → gives_way f i (top hs b c) ≡ gives_way g i (top hs b c)
  same_way i [] (alone q) c low r = refl
  same_way i [] (under true q) c low r = refl
  same_way i [] (under false q) c low r = refl
  same_way i (j ∷ hs) b c low r = ap (λ k. ltb k (f j)) (same i low) ∙ ap (λ k. ltb (g i) k) (same j r.0)

  same_enter : (i : LineNo) (s : State) (v w w' : Bool) → (v ≡ true → w ≡ w')
      → provided v 11 s (provided (has s.pending i.0) 12 s (provided (has s.enabled i.0) 13 s (provided (not (nested i (s.active ∷ s.suspended))) 14 s (provided w 15 s (enter_line i s, 0)))))
      ≡ provided v 11 s (provided (has s.pending i.0) 12 s (provided (has s.enabled i.0) 13 s (provided (not (nested i (s.active ∷ s.suspended))) 14 s (provided w' 15 s (enter_line i s, 0)))))
  same_enter i s true w w' e = ap (λ x. provided (has s.pending i.0) 12 s (provided (has s.enabled i.0) 13 s (provided (not (nested i (s.active ∷ s.suspended))) 14 s (provided x 15 s (enter_line i s, 0))))) (e refl)
  same_enter i s false w w' e = refl

  same_apply : (c : Call) (hs : List LineNo) (b : Base) (s : State) → Rising f (lines plan) hs → apply plan choose f c (shaped hs b s) ≡ apply plan choose g c (shaped hs b s)
  unfolding apply
  same_apply (Raise i) hs b s r = refl
  same_apply (Enter i) hs b s r = same_enter i (shaped hs b s) (ltb i.0 (lines plan)) _ _ (λ e. same_way i hs b s.current (ltb-true _ _ e) r)
  same_apply Pend hs b s r = refl
  same_apply Go hs b s r = refl
  same_apply (Signal set) hs b s r = refl
  same_apply Block hs b s r = refl
  same_apply (Post e) hs b s r = refl
  same_apply Leave hs b s r = refl
  same_apply (Mask i) hs b s r = refl
  same_apply (Unmask i) hs b s r = refl

  abbrev I : List LineNo → Base → State → List Answered → Type 0
  I hs b s past = Nests plan f hs past

  keeps : (c : Call) (hs : List LineNo) (b : Base) (s : State) (past : List Answered) (hs' : List LineNo) (b' : Base) (s' : State) (a : ℕ)
      → Case plan choose f hs b s c hs' b' s' a → I hs b s past → I hs' b' s' (record { call = c; answer = a } ∷ past)
  keeps c hs b s past hs' b' s' a v k = nests_keeps plan choose f past v k

  abbrev Reached : History → Type 0
  Reached h = Held plan choose f I keeps h

  same_at : (c : Call) (h : History) → Reached h → apply plan choose f c h.state ≡ apply plan choose g c h.state
  same_at c h (held hs b s e k) = ap (apply plan choose f c) e ∙ (same_apply c hs b s k.rises ∙ ap (apply plan choose g c) (sym e))

  same_step : (c : Call) (h : History) → Reached h → step plan choose f c h ≡ step plan choose g c h
  unfolding step
  same_step c h r = ap (λ (o : Outcome). record { state = o.0; past = record { call = c; answer = o.1 } ∷ h.past }) (same_at c h r)

  same_answers_from : (calls : List Call) (h : History) → Reached h → answers plan choose f calls h.state ≡ answers plan choose g calls h.state
  unfolding answers step
  same_answers_from [] h r = refl
  same_answers_from (c ∷ calls) h r =
      ap (λ (l : List (ℕ × ℕ)). numbers (apply plan choose f c h.state) ∷ l) (same_answers_from calls (step plan choose f c h) (held_step plan choose f I keeps c h r))
      ∙ ap (λ (o : Outcome). numbers o ∷ answers plan choose g calls o.0) (same_at c h r)

  pub same_answers : (calls : List Call) → answers plan choose f calls (start plan) ≡ answers plan choose g calls (start plan)
  same_answers calls = same_answers_from calls _ (held_start plan choose f I keeps (record { same = refl; rises = tt }))

  same_run : (calls : List Call) (h : History) → Reached h → run plan choose f calls h ≡ run plan choose g calls h
  unfolding run
  same_run [] h r = refl
  same_run (c ∷ calls) h r =
      same_run calls (step plan choose f c h) (held_step plan choose f I keeps c h r) ∙ ap (run plan choose g calls) (same_step c h r)

  pub same_after : (calls : List Call) → after plan choose f calls ≡ after plan choose g calls
  same_after calls = same_run calls _ (held_start plan choose f I keeps (record { same = refl; rises = tt }))
