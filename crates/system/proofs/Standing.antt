-- What follows from routines standing rightly on one another, and what keeps them so.
use Rattle.std.proofs.Common.{◌≡◌, ℕ, ◌+◌, ◌<◌, ◌≤◌, Bool, true, false, cond, not, ◌&&◌, ltb, List, [], ◌∷◌, length, Some, None, Option, sym, refl, ap, subst, arith}
use Rattle.std.proofs.lemmas.Bool.{and_parts, ltb-true, false≢true, cond_both}
use Rattle.numbers.specs.declared.number.EventNo.{EventNo}
use Rattle.numbers.specs.declared.number.LineNo.{LineNo}
use Rattle.numbers.specs.declared.number.TaskNo.{TaskNo}
use Rattle.numbers.specs.Sets.{has}
use Rattle.board.specs.Figure.{figure_of, some_line, Nested}
use Rattle.board.specs.Plans.{Parts, within}
use Rattle.board.specs.Ranks.{rank_bound}
use Rattle.board.proofs.Counting.{by_ranks, many_few, nest_within}
use Rattle.kernel.specs.declared.call.Call.{Call}
use Rattle.kernel.specs.declared.call.Call.TheVariants.{Raise, Enter, Pend, Go, Signal, Block, Post, Leave, Mask, Unmask}
use Rattle.kernel.specs.declared.place.LinePlace.{LinePlace}
use Rattle.kernel.specs.declared.place.LinePlace.TheVariants.{Idle, Handling, Posted}
use Rattle.kernel.specs.declared.place.SchedulerPlace.{SchedulerPlace}
use Rattle.kernel.specs.declared.place.SchedulerPlace.TheVariants.{Copying, Waking, Clearing, Choosing, Noting, Switching, Loading, Returning}
use Rattle.kernel.specs.declared.place.TaskPlace.{TaskPlace}
use Rattle.kernel.specs.declared.place.TaskPlace.TheVariants.{Application, Adding, Requesting, Opening, Waiting, Blocking, Yielding}
use Rattle.kernel.specs.declared.routine.Routine.{Routine}
use Rattle.kernel.specs.declared.routine.Routine.TheVariants.{Direct, Delayed, Task, Handler}
use Rattle.kernel.specs.Afterwards.{handlers}
use Rattle.kernel.specs.States.{State, line_place, task_of}
use Rattle.kernel.specs.Rules.{Chooses, Outcome, Ranks, apply, block_by, decide, enable, enable_by, events, gives_way, go_by, go_handler, go_scheduler, go_task, gone, in_application, in_handler, is_task, leave_by, lines, nested, pend_by, post_by, provided, raise_line, rest, return_to, signal_by, switch, tasks}
use Rattle.system.specs.Stacked.{above, stacked}
use Rattle.system.specs.Views.{Room, go_at, standing, stands}

module _ (rank : Ranks) (n : ℕ) where
  bare : (r : Routine) (rs : List Routine) → is_task r ≡ true → stacked rank n r rs ≡ true → rs ≡ []
  bare (Task t) [] k h = refl
  bare (Task t) (x ∷ xs) k h = absurd (false≢true h)
  bare Direct rs k h = absurd (false≢true k)
  bare Delayed rs k h = absurd (false≢true k)
  bare (Handler i) rs k h = absurd (false≢true k)

  -- below a scheduler there is one task and no handler
  under_scheduler : (rs : List Routine) → stacked rank n Direct rs ≡ true → (handlers rs ≡ []) × (length rs ≡ 1)
  under_scheduler [] h = absurd (false≢true h)
  under_scheduler (Task t ∷ []) h = (refl, refl)
  under_scheduler (Task t ∷ (x ∷ xs)) h = absurd (false≢true h)
  under_scheduler (Direct ∷ rs) h = absurd (false≢true h)
  under_scheduler (Delayed ∷ rs) h = absurd (false≢true h)
  under_scheduler (Handler i ∷ rs) h = absurd (false≢true h)

  either_scheduler : (rs : List Routine) → stacked rank n Delayed rs ≡ true → stacked rank n Direct rs ≡ true
  either_scheduler [] h = h
  either_scheduler (r ∷ rs) h = h

  pub nests : (a : Routine) (rs : List Routine) → stacked rank n a rs ≡ true → Nested rank n (handlers (a ∷ rs))
  nests Direct rs h = rw (under_scheduler rs h).0 tt
  nests Delayed rs h = rw (under_scheduler rs (either_scheduler rs h)).0 tt
  nests (Task t) [] h = tt
  nests (Task t) (r ∷ rs) h = absurd (false≢true h)
  nests (Handler i) [] h = absurd (false≢true h)
  nests (Handler i) (r ∷ rs) h =
      let p = and_parts (ltb i.0 n && gives_way rank i r) (stacked rank n r rs) h in
      let q = and_parts (ltb i.0 n) (gives_way rank i r) p.0 in
      over r (ltb-true _ _ q.0) q.1 p.1 (nests r rs p.1)
    where
      over : (r : Routine) → i.0 < n → gives_way rank i r ≡ true → stacked rank n r rs ≡ true → Nested rank n (handlers (r ∷ rs)) → Nested rank n (i ∷ handlers (r ∷ rs))
      over Direct low w s k = rw (under_scheduler rs s).0 low
      over Delayed low w s k = rw (under_scheduler rs (either_scheduler rs s)).0 low
      over (Task t) low w s k = rw (bare (Task t) rs refl s) low
      over (Handler j) low w s k = (low, ltb-true _ _ w, k)

  pub depth : (a : Routine) (rs : List Routine) → stacked rank n a rs ≡ true → length rs ≤ 1 + length (handlers (a ∷ rs))
  depth Direct rs h = omega (arith, (under_scheduler rs h).1)
  depth Delayed rs h = omega (arith, (under_scheduler rs (either_scheduler rs h)).1)
  depth (Task t) [] h = omega arith
  depth (Task t) (r ∷ rs) h = absurd (false≢true h)
  depth (Handler i) [] h = absurd (false≢true h)
  depth (Handler i) (r ∷ rs) h =
      let p = and_parts (ltb i.0 n && gives_way rank i r) (stacked rank n r rs) h in omega (arith, depth r rs p.1)

  pub within_figure : (bounded : (i : LineNo) → rank i < rank_bound) (a : Routine) (rs : List Routine) → stacked rank n a rs ≡ true → length rs ≤ figure_of rank n
  within_figure bounded a rs h =
      omega (arith, depth a rs h, nest_within rank rank_bound bounded n (handlers (a ∷ rs)) (nests a rs h))

  pub room : (bounded : (i : LineNo) → rank i < rank_bound) (a : Routine) (rs : List Routine) → stacked rank n a rs ≡ true → length rs ≤ 9
  room bounded a rs h = omega (arith, within_figure bounded a rs h, by_ranks rank rank_bound bounded n, many_few (λ r. some_line rank r n) rank_bound)

  -- a handler may be entered, and then there is room for what it interrupts
  pub over : (i : LineNo) (a : Routine) (rs : List Routine) → ltb i.0 n ≡ true → gives_way rank i a ≡ true → stacked rank n a rs ≡ true → stacked rank n (Handler i) (a ∷ rs) ≡ true
  over i a rs known lower h = rw (known, lower, h) refl

  pub room_over : (bounded : (i : LineNo) → rank i < rank_bound) (i : LineNo) (a : Routine) (rs : List Routine) → ltb i.0 n ≡ true → gives_way rank i a ≡ true → stacked rank n a rs ≡ true → length rs < 9
  room_over bounded i a rs known lower h = omega (arith, room bounded (Handler i) (a ∷ rs) (over i a rs known lower h))

  -- over a task nothing is suspended
  pub room_task : (t : TaskNo) (rs : List Routine) → stacked rank n (Task t) rs ≡ true → length rs < 9
  room_task t rs h = omega (arith, ap length (bare (Task t) rs refl h))

  room_by : (a : Routine) (s : State) → stacked rank n a s.suspended ≡ true → Room (stands a s) (length s.suspended)
  room_by Direct s h = tt
  room_by Delayed s h = tt
  room_by (Task t) s h = room_task t s.suspended h
  room_by (Handler i) s h = tt

  pub room_at : (s : State) → stacked rank n s.active s.suspended ≡ true → Room (standing s) (length s.suspended)
  room_at s h = room_by s.active s h

-- each call keeps them so, in every state of the rules and under any ranks
module _ (plan : Parts) (choose : Chooses) (rank : Ranks) where
  abbrev Stands : State → Type 0
  Stands s = stacked rank (lines plan) s.active s.suspended ≡ true

  record After (outcome : Outcome) : Type 0 where
    holds : Stands outcome.0

  ok : {outcome : Outcome} → Stands outcome.0 → After outcome
  ok h = record { holds = h }

  either_way : (v : Bool) (m : ℕ) (s : State) (k : Outcome) → Stands s → (v ≡ true → After k) → After (provided v m s k)
  either_way true m s k h f = f refl
  either_way false m s k h f = ok h

  replaced : (rs : List Routine) (t : TaskNo) → stacked rank (lines plan) Direct rs ≡ true → stacked rank (lines plan) Direct (Task t ∷ rest rs) ≡ true
  replaced [] t h = absurd (false≢true h)
  replaced (Task u ∷ []) t h = refl
  replaced (Task u ∷ (x ∷ xs)) t h = absurd (false≢true h)
  replaced (Direct ∷ rs) t h = absurd (false≢true h)
  replaced (Delayed ∷ rs) t h = absurd (false≢true h)
  replaced (Handler i ∷ rs) t h = absurd (false≢true h)

  returned : (rs : List Routine) (s : State) → stacked rank (lines plan) s.active rs ≡ true → s.suspended ≡ rs → Stands (return_to rs s)
  returned [] s h e = subst (λ l. stacked rank (lines plan) s.active l ≡ true) (sym e) h
  returned (r ∷ rs) s h e =
      let p = and_parts (above rank (lines plan) s.active r) (stacked rank (lines plan) r rs) h in
      by_flags r p.1 (s.request && s.delayed) e
    where
      by_flags : (r : Routine) → stacked rank (lines plan) r rs ≡ true → (v : Bool) → s.suspended ≡ r ∷ rs
          → Stands (cond (is_task r && v) (record s { request = false; active = Delayed; scheduler = Copying }) (record s { active = r; suspended = rs }))
      by_flags Direct k v e = k
      by_flags Delayed k v e = k
      by_flags (Handler i) k v e = k
      by_flags (Task t) k true e = subst (λ l. stacked rank (lines plan) Delayed l ≡ true) (sym e) k
      by_flags (Task t) k false e = k

  went_task : (t : TaskNo) (p : TaskPlace) (s : State) → s.active ≡ Task t → Stands s → After (go_task t p s)
  went_task t Application s e h = ok h
  went_task t Adding s e h = ok h
  went_task t Requesting s e h = ok h
  went_task t Opening s e h = ok h
  went_task t Waiting s e h = ok (cond_both s.request _ _ Stands (λ _. h) (λ _. h))
  went_task t Blocking s e h = ok h
  went_task t Yielding s e h = ok (subst (λ a. stacked rank (lines plan) a s.suspended ≡ true) e h)

  decided : (o : Option TaskNo) (s : State) → Stands s → Stands (decide o s)
  decided None s h = h
  decided (Some t) s h = h

  abbrev scheduler_of : Bool → Routine
  scheduler_of true = Delayed
  scheduler_of false = Direct

  switched : (d : Bool) (o : Option TaskNo) (s : State) → s.active ≡ scheduler_of d → Stands s → Stands (switch o s)
  switched d None s e h = h
  switched d (Some t) s e h =
      let now : stacked rank (lines plan) (scheduler_of d) s.suspended ≡ true = subst (λ a. stacked rank (lines plan) a s.suspended ≡ true) e h in
      subst (λ a. stacked rank (lines plan) a (Task t ∷ rest s.suspended) ≡ true) (sym e) (on d now)
    where
      on : (d : Bool) → stacked rank (lines plan) (scheduler_of d) s.suspended ≡ true → stacked rank (lines plan) (scheduler_of d) (Task t ∷ rest s.suspended) ≡ true
      on true k = replaced s.suspended t (either_scheduler rank (lines plan) s.suspended k)
      on false k = replaced s.suspended t k

  went_scheduler : (d : Bool) (p : SchedulerPlace) (s : State) → s.active ≡ scheduler_of d → Stands s → After (go_scheduler plan choose d p s)
  went_scheduler d Copying s e h = ok h
  went_scheduler d Waking s e h = ok h
  went_scheduler d Clearing s e h = ok h
  went_scheduler d Choosing s e h = ok (decided (choose s.ready s.current) s h)
  went_scheduler d Noting s e h = ok h
  went_scheduler d Switching s e h = ok (switched d s.chosen _ e h)
  went_scheduler d Loading s e h = ok h
  went_scheduler d Returning s e h = ok (returned s.suspended s h refl)

  went_handler : (i : LineNo) (p : LinePlace) (s : State) → Stands s → After (go_handler i p s)
  went_handler i Idle s h = ok h
  went_handler i Handling s h = ok h
  went_handler i Posted s h = ok h

  went : (a : Routine) (s : State) → s.active ≡ a → Stands s → After (go_by plan choose a s)
  went Direct s e h = went_scheduler false s.scheduler s e h
  went Delayed s e h = went_scheduler true s.scheduler s e h
  went (Task t) s e h = went_task t (task_of s t).place s e h
  went (Handler i) s e h = went_handler i (line_place s i) s h

  raised_on : (i : LineNo) (v : Bool) (s : State) → Stands s → After (raise_line i v s)
  raised_on i true s h = ok h
  raised_on i false s h = ok h

  pended_on : (a : Routine) (s : State) → s.active ≡ a → Stands s → After (pend_by a s)
  pended_on Direct s e h = ok h
  pended_on Delayed s e h = ok h
  pended_on (Task t) s e h = ok (subst (λ a. stacked rank (lines plan) a s.suspended ≡ true) e h)
  pended_on (Handler i) s e h = ok h

  signalled_on : (set : ℕ) (a : Routine) (s : State) → Stands s → After (signal_by plan set a s)
  signalled_on set Direct s h = ok h
  signalled_on set Delayed s h = ok h
  signalled_on set (Task t) s h = either_way (in_application (task_of s t).place) _ s _ h (λ _. either_way (within set (tasks plan)) _ s _ h (λ _. ok h))
  signalled_on set (Handler i) s h = ok h

  blocked_on : (a : Routine) (s : State) → Stands s → After (block_by a s)
  blocked_on Direct s h = ok h
  blocked_on Delayed s h = ok h
  blocked_on (Task t) s h = either_way (in_application (task_of s t).place) _ s _ h (λ _. ok h)
  blocked_on (Handler i) s h = ok h

  posted_on : (e : EventNo) (a : Routine) (s : State) → Stands s → After (post_by plan e a s)
  posted_on e Direct s h = ok h
  posted_on e Delayed s h = ok h
  posted_on e (Task t) s h = ok h
  posted_on e (Handler i) s h = either_way (in_handler (line_place s i)) _ s _ h (λ _. either_way (ltb e.0 (events plan)) _ s _ h (λ _. ok h))

  left_on : (a : Routine) (s : State) → Stands s → After (leave_by a s)
  left_on Direct s h = ok h
  left_on Delayed s h = ok h
  left_on (Task t) s h = ok h
  left_on (Handler i) s h = either_way (in_handler (line_place s i)) _ s _ h (λ _. ok (returned s.suspended _ h refl))

  enabled_on : (i : LineNo) (on : Bool) (s : State) → Stands s → After (enable plan i on s)
  enabled_on i true s h = either_way (ltb i.0 (lines plan)) _ s _ h (λ _. ok h)
  enabled_on i false s h = either_way (ltb i.0 (lines plan)) _ s _ h (λ _. ok h)

  allowed_on : (i : LineNo) (on : Bool) (a : Routine) (s : State) → Stands s → After (enable_by plan i on a s)
  allowed_on i on Direct s h = ok h
  allowed_on i on Delayed s h = ok h
  allowed_on i on (Task t) s h = either_way (in_application (task_of s t).place) _ s _ h (λ _. enabled_on i on s h)
  allowed_on i on (Handler j) s h = either_way (in_handler (line_place s j)) _ s _ h (λ _. enabled_on i on s h)

  kept : (c : Call) (s : State) → Stands s → After (apply plan choose rank c s)
  unfolding apply
  kept (Raise i) s h = either_way (ltb i.0 (lines plan)) _ s _ h (λ _. raised_on i (has s.pending i.0) s h)
  kept (Enter i) s h =
      either_way (ltb i.0 (lines plan)) _ s _ h (λ known.
      either_way (has s.pending i.0) _ s _ h (λ _.
      either_way (has s.enabled i.0) _ s _ h (λ _.
      either_way (not (nested i (s.active ∷ s.suspended))) _ s _ h (λ _.
      either_way (gives_way rank i s.active) _ s _ h (λ lower. ok (rw (known, lower, h) refl))))))
  kept Pend s h = either_way s.request _ s _ h (λ _. either_way s.delayed _ s _ h (λ _. pended_on s.active s refl h))
  kept Go s h = went s.active s refl h
  kept (Signal set) s h = signalled_on set.bits s.active s h
  kept Block s h = blocked_on s.active s h
  kept (Post e) s h = posted_on e s.active s h
  kept Leave s h = left_on s.active s h
  kept (Mask i) s h = allowed_on i false s.active s h
  kept (Unmask i) s h = allowed_on i true s.active s h

  pub keeps : (c : Call) (s : State) → Stands s → Stands (apply plan choose rank c s).0
  keeps c s h = (kept c s h).holds

  went_at : (a : Routine) (s : State) → s.active ≡ a → Stands s → After (go_at plan choose (stands a s) s)
  went_at Direct s e h = went Direct s e h
  went_at Delayed s e h = went Delayed s e h
  went_at (Task t) s e h = went (Task t) s e h
  went_at (Handler i) s e h = went (Handler i) s e h

  pub go_keeps : (s : State) → Stands s → Stands (go_at plan choose (standing s) s).0
  go_keeps s h = (went_at s.active s refl h).holds

  -- the step of the active routine, by its place
  gone_by : (a : Routine) (s : State) → go_at plan choose (stands a s) s ≡ go_by plan choose a s
  gone_by Direct s = refl
  gone_by Delayed s = refl
  gone_by (Task t) s = refl
  gone_by (Handler i) s = refl

  pub gone_at : (s : State) → go_at plan choose (standing s) s ≡ gone plan choose s
  gone_at s = gone_by s.active s
