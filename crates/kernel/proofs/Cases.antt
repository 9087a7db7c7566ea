-- The shapes of a state, and what each call does to them: every test is taken apart here, once.
use Rattle.std.proofs.Common.{◌≡◌, ℕ, ◌^◌, ◌<◌, Bool, true, false, cond, not, ◌&&◌, eqb, ltb, List, [], ◌∷◌, Some, None, Option, sym, refl, ap, subst}
use lib.Bits.{bit_or}
use Rattle.std.proofs.lemmas.Bool.{ltb-true}
use Rattle.numbers.specs.declared.number.EventNo.{EventNo}
use Rattle.numbers.specs.declared.number.LineNo.{LineNo}
use Rattle.numbers.specs.declared.number.TaskNo.{TaskNo}
use Rattle.numbers.specs.declared.set.Set.{Set}
use Rattle.numbers.specs.Sets.{has, minus, with_member}
use Rattle.board.specs.Plans.{Parts, within}
use Rattle.kernel.specs.declared.call.Call.{Call}
use Rattle.kernel.specs.declared.call.Call.TheVariants.{Raise, Enter, Pend, Go, Signal, Block, Post, Leave, Mask, Unmask}
use Rattle.kernel.specs.declared.place.LinePlace.{LinePlace}
use Rattle.kernel.specs.declared.place.LinePlace.TheVariants.{Idle, Handling, Posted}
use Rattle.kernel.specs.declared.place.SchedulerPlace.{SchedulerPlace}
use Rattle.kernel.specs.declared.place.SchedulerPlace.TheVariants.{Copying, Waking, Clearing, Choosing, Noting, Switching, Loading, Returning}
use Rattle.kernel.specs.declared.place.TaskPlace.{TaskPlace}
use Rattle.kernel.specs.declared.place.TaskPlace.TheVariants.{Application, Adding, Requesting, Opening, Waiting, Blocking, Yielding}
use Rattle.kernel.specs.declared.routine.Routine.{Routine}
use Rattle.kernel.specs.declared.routine.Routine.TheVariants.{Direct, Delayed, Task, Handler}
use Rattle.kernel.specs.States.{State, start, with_enabled, with_pending, with_delayed, with_request, with_active, with_suspended, with_current, with_ready, with_posted, with_copied, with_chosen, with_scheduler, task_of, with_task, at_place, at_resume, at_kept, move, line_place, with_line}
use Rattle.kernel.specs.Rules.{Chooses, Ranks, Outcome, apply, decide, events, gives_way, go_handler, go_scheduler, go_task, in_application, in_handler, lines, nested, provided, raise_line, return_to, switch, tasks, woken}
use Rattle.kernel.specs.Histories.{Answered, History, after, run, step}

-- what stands below the handlers: the current task alone, or a scheduler above it (delayed if the flag is on)
pub data Base : Type 0 where
  alone : SchedulerPlace → Base
  under : Bool → SchedulerPlace → Base

abbrev pub kind : Bool → Routine
kind true = Delayed
kind false = Direct

abbrev pub top : List LineNo → Base → TaskNo → Routine
top [] (alone q) c = Task c
top [] (under d q) c = kind d
top (i ∷ hs) b c = Handler i

abbrev pub below : List LineNo → Base → TaskNo → List Routine
below [] (alone q) c = []
below [] (under d q) c = Task c ∷ []
below (i ∷ hs) b c = top hs b c ∷ below hs b c

abbrev pub place_of : Base → SchedulerPlace
place_of (alone q) = q
place_of (under d q) = q

-- a state with the stack that the handlers, from the inmost, and the base say
abbrev pub shaped : List LineNo → Base → State → State
shaped hs b s =
    with_active (top hs b s.current) (with_suspended (below hs b s.current) (with_scheduler (place_of b) s))

-- returning to this stack doesn't call the delayed scheduler
abbrev pub Returns : List LineNo → Base → State → Type 0
Returns [] (alone q) s = (s.request && s.delayed) ≡ false
Returns [] (under d q) s = Unit {0}
Returns (i ∷ hs) b s = Unit {0}

-- one case for each way through a call
pub data Case (plan : Parts) (choose : Chooses) (rank : Ranks) : List LineNo → Base → State → Call → List LineNo → Base → State → ℕ → Type 0 where
  refused : {hs : List LineNo} {b : Base} {s : State} {c : Call} {n : ℕ} → eqb n 0 ≡ false → eqb n 100 ≡ false → Case plan choose rank hs b s c hs b s n
  raises : {hs : List LineNo} {b : Base} {s : State} {i : LineNo} → i.0 < lines plan → has s.pending i.0 ≡ false
      → Case plan choose rank hs b s (Raise i) hs b (with_pending (with_member s.pending i.0) s) 100
  enters : {hs : List LineNo} {b : Base} {s : State} {i : LineNo} → i.0 < lines plan → has s.pending i.0 ≡ true
      → gives_way rank i (top hs b s.current) ≡ true
      → Case plan choose rank hs b s (Enter i) (i ∷ hs) b (with_pending (minus s.pending (2 ^ i.0)) (with_line i Handling s)) 0
  pends : {q : SchedulerPlace} {s : State} → s.request ≡ true → s.delayed ≡ true
      → Case plan choose rank [] (alone q) s Pend [] (under true Copying) (with_request false s) 0
  adds : {q : SchedulerPlace} {s : State} → (task_of s s.current).place ≡ Adding
      → Case plan choose rank [] (alone q) s Go [] (alone q) (with_ready (bit_or s.ready (task_of s s.current).kept) (move s.current Requesting s)) 0
  requests : {q : SchedulerPlace} {s : State} → (task_of s s.current).place ≡ Requesting
      → Case plan choose rank [] (alone q) s Go [] (alone q) (with_request true (move s.current Opening s)) 0
  opens : {q : SchedulerPlace} {s : State} → (task_of s s.current).place ≡ Opening
      → Case plan choose rank [] (alone q) s Go [] (alone q) (with_delayed true (move s.current Waiting s)) 0
  waits : {q : SchedulerPlace} {s : State} → Case plan choose rank [] (alone q) s Go [] (alone q) s 0
  resumes : {q : SchedulerPlace} {s : State} → (task_of s s.current).place ≡ Waiting → s.request ≡ false
      → Case plan choose rank [] (alone q) s Go [] (alone q) (move s.current Application s) 0
  unreadies : {q : SchedulerPlace} {s : State} → (task_of s s.current).place ≡ Blocking
      → Case plan choose rank [] (alone q) s Go [] (alone q) (with_ready (minus s.ready (2 ^ s.current.0)) (move s.current Yielding s)) 0
  yields : {q : SchedulerPlace} {s : State} → (task_of s s.current).place ≡ Yielding
      → Case plan choose rank [] (alone q) s Go [] (under false Copying) (move s.current Opening s) 0
  copies : {d : Bool} {s : State} → Case plan choose rank [] (under d Copying) s Go [] (under d Waking) (with_copied s.posted s) 0
  wakes : {d : Bool} {s : State}
      → Case plan choose rank [] (under d Waking) s Go [] (under d Clearing) (with_ready (bit_or s.ready (woken plan.wakes s.copied)) s) 0
  clears : {d : Bool} {s : State}
      → Case plan choose rank [] (under d Clearing) s Go [] (under d Choosing) (with_posted (minus s.posted s.copied) s) 0
  idles : {d : Bool} {s : State} → Case plan choose rank [] (under d Choosing) s Go [] (under d Copying) s 0
  chooses : {d : Bool} {s : State} {t : TaskNo} → choose s.ready s.current ≡ Some t
      → Case plan choose rank [] (under d Choosing) s Go [] (under d Noting) (with_chosen (Some t) s) 0
  notes : {d : Bool} {s : State}
      → Case plan choose rank [] (under d Noting) s Go [] (under d Switching) (with_task s.current (at_resume d (task_of s s.current)) s) 0
  switches : {d : Bool} {s : State} {t : TaskNo} → s.chosen ≡ Some t
      → Case plan choose rank [] (under d Switching) s Go [] (under d Loading) (with_current t s) 0
  switches_none : {d : Bool} {s : State} → s.chosen ≡ None
      → Case plan choose rank [] (under d Switching) s Go [] (under d Loading) s 0
  loads : {d : Bool} {s : State}
      → Case plan choose rank [] (under d Loading) s Go [] (under d Returning) (with_delayed (task_of s s.current).resume s) 0
  returns_again : {d : Bool} {s : State} → s.request ≡ true → s.delayed ≡ true
      → Case plan choose rank [] (under d Returning) s Go [] (under true Copying) (with_request false s) 0
  returns_back : {d : Bool} {s : State} → (s.request && s.delayed) ≡ false
      → Case plan choose rank [] (under d Returning) s Go [] (alone Returning) s 0
  handler_requests : {i : LineNo} {hs : List LineNo} {b : Base} {s : State} → line_place s i ≡ Posted
      → Case plan choose rank (i ∷ hs) b s Go (i ∷ hs) b (with_request true (with_line i Handling s)) 0
  signals : {q : SchedulerPlace} {s : State} {set : Set TaskNo} → (task_of s s.current).place ≡ Application → set.bits < 2 ^ tasks plan
      → Case plan choose rank [] (alone q) s (Signal set) [] (alone q) (with_delayed false (with_task s.current (at_place Adding (at_kept set.bits (task_of s s.current))) s)) 0
  blocks : {q : SchedulerPlace} {s : State} → (task_of s s.current).place ≡ Application
      → Case plan choose rank [] (alone q) s Block [] (alone q) (with_delayed false (move s.current Blocking s)) 0
  posts : {i : LineNo} {hs : List LineNo} {b : Base} {s : State} {e : EventNo} → line_place s i ≡ Handling
      → Case plan choose rank (i ∷ hs) b s (Post e) (i ∷ hs) b (with_posted (with_member s.posted e.0) (with_line i Posted s)) 0
  leaves_again : {i : LineNo} {q : SchedulerPlace} {s : State} → line_place s i ≡ Handling → s.request ≡ true → s.delayed ≡ true
      → Case plan choose rank (i ∷ []) (alone q) s Leave [] (under true Copying) (with_request false (with_line i Idle s)) 0
  leaves_back : {i : LineNo} {hs : List LineNo} {b : Base} {s : State} → line_place s i ≡ Handling → Returns hs b s
      → Case plan choose rank (i ∷ hs) b s Leave hs b (with_line i Idle s) 0
  masks : {hs : List LineNo} {b : Base} {s : State} {i : LineNo}
      → Case plan choose rank hs b s (Mask i) hs b (with_enabled (minus s.enabled (2 ^ i.0)) s) 0
  unmasks : {hs : List LineNo} {b : Base} {s : State} {i : LineNo}
      → Case plan choose rank hs b s (Unmask i) hs b (with_enabled (with_member s.enabled i.0) s) 0

-- what a call leads to is shaped again, and is one of the cases
pub data Out (plan : Parts) (choose : Chooses) (rank : Ranks) (hs : List LineNo) (b : Base) (s : State) (c : Call) (r : Outcome) : Type 0 where
  out : {hs' : List LineNo} {b' : Base} {s' : State} {a : ℕ} → Case plan choose rank hs b s c hs' b' s' a → r ≡ (shaped hs' b' s', a) → Out plan choose rank hs b s c r

by_provided : (P : Outcome → Type 0) (v : Bool) (n : ℕ) (s : State) (k : Outcome) → P (s, n) → (v ≡ true → P k) → P (provided v n s k)
by_provided P true n s k p f = f refl
by_provided P false n s k p f = p

only_application : (p : TaskPlace) → in_application p ≡ true → p ≡ Application
only_application Application e = refl
only_application Adding e = cc
only_application Requesting e = cc
only_application Opening e = cc
only_application Waiting e = cc
only_application Blocking e = cc
only_application Yielding e = cc

only_handling : (p : LinePlace) → in_handler p ≡ true → p ≡ Handling
only_handling Idle e = cc
only_handling Handling e = refl
only_handling Posted e = cc

module _ (plan : Parts) (choose : Chooses) (rank : Ranks) where
  case_raise : (hs : List LineNo) (b : Base) (s : State) (i : LineNo) → Out plan choose rank hs b s (Raise i) (apply plan choose rank (Raise i) (shaped hs b s))
  unfolding apply
  case_raise hs b s i =
      by_provided P (ltb i.0 (lines plan)) _ _ _ (out (refused refl refl) refl) (λ e. by_pending (ltb-true _ _ e) (has s.pending i.0) refl)
    where
      P : Outcome → Type 0
      P = Out plan choose rank hs b s (Raise i)

      by_pending : i.0 < lines plan → (v : Bool) → has s.pending i.0 ≡ v → P (raise_line i v (shaped hs b s))
      by_pending h true e = out (refused refl refl) refl
      by_pending h false e = out (raises h e) refl

  case_enter : (hs : List LineNo) (b : Base) (s : State) (i : LineNo) → Out plan choose rank hs b s (Enter i) (apply plan choose rank (Enter i) (shaped hs b s))
  unfolding apply
  case_enter hs b s i =
      let P : Outcome → Type 0 = Out plan choose rank hs b s (Enter i) in
      by_provided P (ltb i.0 (lines plan)) _ _ _ (out (refused refl refl) refl) (λ e.
      by_provided P (has s.pending i.0) _ _ _ (out (refused refl refl) refl) (λ p.
      by_provided P (has s.enabled i.0) _ _ _ (out (refused refl refl) refl) (λ _.
      by_provided P (not (nested i (top hs b s.current ∷ below hs b s.current))) _ _ _ (out (refused refl refl) refl) (λ _.
      by_provided P (gives_way rank i (top hs b s.current)) _ _ _ (out (refused refl refl) refl) (λ w.
      out (enters (ltb-true _ _ e) p w) refl)))))

  case_pend : (hs : List LineNo) (b : Base) (s : State) → Out plan choose rank hs b s Pend (apply plan choose rank Pend (shaped hs b s))
  unfolding apply
  case_pend [] (alone q) s =
      let P : Outcome → Type 0 = Out plan choose rank [] (alone q) s Pend in
      by_provided P s.request _ _ _ (out (refused refl refl) refl) (λ r.
      by_provided P s.delayed _ _ _ (out (refused refl refl) refl) (λ d. out (pends r d) refl))
  case_pend [] (under true q) s =
      let P : Outcome → Type 0 = Out plan choose rank [] (under true q) s Pend in
      by_provided P s.request _ _ _ (out (refused refl refl) refl) (λ r.
      by_provided P s.delayed _ _ _ (out (refused refl refl) refl) (λ d. out (refused refl refl) refl))
  case_pend [] (under false q) s =
      let P : Outcome → Type 0 = Out plan choose rank [] (under false q) s Pend in
      by_provided P s.request _ _ _ (out (refused refl refl) refl) (λ r.
      by_provided P s.delayed _ _ _ (out (refused refl refl) refl) (λ d. out (refused refl refl) refl))
  case_pend (i ∷ hs) b s =
      let P : Outcome → Type 0 = Out plan choose rank (i ∷ hs) b s Pend in
      by_provided P s.request _ _ _ (out (refused refl refl) refl) (λ r.
      by_provided P s.delayed _ _ _ (out (refused refl refl) refl) (λ d. out (refused refl refl) refl))

  go_alone : (q : SchedulerPlace) (s : State) (p : TaskPlace) → (task_of s s.current).place ≡ p
      → Out plan choose rank [] (alone q) s Go (go_task s.current p (shaped [] (alone q) s))
  go_alone q s Application e = out (refused refl refl) refl
  go_alone q s Adding e = out (adds e) refl
  go_alone q s Requesting e = out (requests e) refl
  go_alone q s Opening e = out (opens e) refl
  go_alone q s Waiting e = by_request s.request refl
    where
      by_request : (v : Bool) → s.request ≡ v
          → Out plan choose rank [] (alone q) s Go (cond v (shaped [] (alone q) s) (move s.current Application (shaped [] (alone q) s)), 0)
      by_request true r = out waits refl
      by_request false r = out (resumes e r) refl
  go_alone q s Blocking e = out (unreadies e) refl
  go_alone q s Yielding e = out (yields e) refl

  go_under : (d : Bool) (q : SchedulerPlace) (s : State) → Out plan choose rank [] (under d q) s Go (go_scheduler plan choose d q (shaped [] (under d q) s))
  go_under d Copying s = out copies refl
  go_under d Waking s = out wakes refl
  go_under d Clearing s = out clears refl
  go_under d Choosing s = by_choice (choose s.ready s.current) refl
    where
      by_choice : (o : Option TaskNo) → choose s.ready s.current ≡ o → Out plan choose rank [] (under d Choosing) s Go (decide o (shaped [] (under d Choosing) s), 0)
      by_choice None e = out idles refl
      by_choice (Some t) e = out (chooses e) refl
  go_under d Noting s = out notes refl
  go_under d Switching s = by_chosen s.chosen refl
    where
      by_chosen : (o : Option TaskNo) → s.chosen ≡ o → Out plan choose rank [] (under d Switching) s Go (switch o (with_scheduler Loading (shaped [] (under d Switching) s)), 0)
      by_chosen None e = out (switches_none e) refl
      by_chosen (Some t) e = out (switches e) refl
  go_under d Loading s = out loads refl
  go_under d Returning s = by_flags s.request s.delayed refl refl
    where
      by_flags : (r o : Bool) → s.request ≡ r → s.delayed ≡ o
          → Out plan choose rank [] (under d Returning) s Go (cond (r && o) (with_active Delayed (with_request false (with_scheduler Copying (shaped [] (under d Returning) s)))) (shaped [] (alone Returning) s), 0)
      by_flags true true e f = out (returns_again e f) refl
      by_flags true false e f = out (returns_back (rw (e, f))) refl
      by_flags false true e f = out (returns_back (rw e)) refl
      by_flags false false e f = out (returns_back (rw e)) refl

  go_inner : (i : LineNo) (hs : List LineNo) (b : Base) (s : State) (p : LinePlace) → line_place s i ≡ p
      → Out plan choose rank (i ∷ hs) b s Go (go_handler i p (shaped (i ∷ hs) b s))
  go_inner i hs b s Idle e = out (refused refl refl) refl
  go_inner i hs b s Handling e = out (refused refl refl) refl
  go_inner i hs b s Posted e = out (handler_requests e) refl

  case_go : (hs : List LineNo) (b : Base) (s : State) → Out plan choose rank hs b s Go (apply plan choose rank Go (shaped hs b s))
  unfolding apply
  case_go [] (alone q) s = go_alone q s (task_of s s.current).place refl
  case_go [] (under true q) s = go_under true q s
  case_go [] (under false q) s = go_under false q s
  case_go (i ∷ hs) b s = go_inner i hs b s (line_place s i) refl

  case_signal : (hs : List LineNo) (b : Base) (s : State) (set : Set TaskNo) → Out plan choose rank hs b s (Signal set) (apply plan choose rank (Signal set) (shaped hs b s))
  unfolding apply
  case_signal [] (alone q) s set =
      let P : Outcome → Type 0 = Out plan choose rank [] (alone q) s (Signal set) in
      by_provided P (in_application (task_of s s.current).place) _ _ _ (out (refused refl refl) refl) (λ z.
      by_provided P (within set.bits (tasks plan)) _ _ _ (out (refused refl refl) refl) (λ h.
      out (signals (only_application _ z) (ltb-true _ _ h)) refl))
  case_signal [] (under true q) s set = out (refused refl refl) refl
  case_signal [] (under false q) s set = out (refused refl refl) refl
  case_signal (i ∷ hs) b s set = out (refused refl refl) refl

  case_block : (hs : List LineNo) (b : Base) (s : State) → Out plan choose rank hs b s Block (apply plan choose rank Block (shaped hs b s))
  unfolding apply
  case_block [] (alone q) s =
      let P : Outcome → Type 0 = Out plan choose rank [] (alone q) s Block in
      by_provided P (in_application (task_of s s.current).place) _ _ _ (out (refused refl refl) refl) (λ z. out (blocks (only_application _ z)) refl)
  case_block [] (under true q) s = out (refused refl refl) refl
  case_block [] (under false q) s = out (refused refl refl) refl
  case_block (i ∷ hs) b s = out (refused refl refl) refl

  case_post : (hs : List LineNo) (b : Base) (s : State) (e : EventNo) → Out plan choose rank hs b s (Post e) (apply plan choose rank (Post e) (shaped hs b s))
  unfolding apply
  case_post [] (alone q) s e = out (refused refl refl) refl
  case_post [] (under true q) s e = out (refused refl refl) refl
  case_post [] (under false q) s e = out (refused refl refl) refl
  case_post (i ∷ hs) b s e =
      let P : Outcome → Type 0 = Out plan choose rank (i ∷ hs) b s (Post e) in
      by_provided P (in_handler (line_place s i)) _ _ _ (out (refused refl refl) refl) (λ z.
      by_provided P (ltb e.0 (events plan)) _ _ _ (out (refused refl refl) refl) (λ h.
      out (posts (only_handling _ z)) refl))

  leave_alone : (i : LineNo) (q : SchedulerPlace) (s : State) → line_place s i ≡ Handling → (r o : Bool) → s.request ≡ r → s.delayed ≡ o
      → Out plan choose rank (i ∷ []) (alone q) s Leave
      (let s' : State = with_line i Idle s in cond (r && o) (shaped [] (under true Copying) (with_request false s')) (shaped [] (alone q) s'), 0)
  leave_alone i q s z true true e f = out (leaves_again z e f) refl
  leave_alone i q s z true false e f = let g : (s.request && s.delayed) ≡ false = rw (e, f) in out (leaves_back z g) refl
  leave_alone i q s z false true e f = let g : (s.request && s.delayed) ≡ false = rw e in out (leaves_back z g) refl
  leave_alone i q s z false false e f = let g : (s.request && s.delayed) ≡ false = rw e in out (leaves_back z g) refl

  leave_now : (i : LineNo) (hs : List LineNo) (b : Base) (s : State) → line_place s i ≡ Handling
      → Out plan choose rank (i ∷ hs) b s Leave (return_to (top hs b s.current ∷ below hs b s.current) (with_line i Idle (shaped (i ∷ hs) b s)), 0)
  leave_now i [] (alone q) s z = leave_alone i q s z s.request s.delayed refl refl
  leave_now i [] (under true q) s z = out (leaves_back z tt) refl
  leave_now i [] (under false q) s z = out (leaves_back z tt) refl
  leave_now i (j ∷ hs) b s z = out (leaves_back z tt) refl

  case_leave : (hs : List LineNo) (b : Base) (s : State) → Out plan choose rank hs b s Leave (apply plan choose rank Leave (shaped hs b s))
  unfolding apply
  case_leave [] (alone q) s = out (refused refl refl) refl
  case_leave [] (under true q) s = out (refused refl refl) refl
  case_leave [] (under false q) s = out (refused refl refl) refl
  case_leave (i ∷ hs) b s =
      let P : Outcome → Type 0 = Out plan choose rank (i ∷ hs) b s Leave in
      by_provided P (in_handler (line_place s i)) _ _ _ (out (refused refl refl) refl) (λ z. leave_now i hs b s (only_handling _ z))

  case_mask : (hs : List LineNo) (b : Base) (s : State) (i : LineNo) → Out plan choose rank hs b s (Mask i) (apply plan choose rank (Mask i) (shaped hs b s))
  unfolding apply
  case_mask [] (alone q) s i =
      let P : Outcome → Type 0 = Out plan choose rank [] (alone q) s (Mask i) in
      by_provided P (in_application (task_of s s.current).place) _ _ _ (out (refused refl refl) refl) (λ _.
      by_provided P (ltb i.0 (lines plan)) _ _ _ (out (refused refl refl) refl) (λ _. out masks refl))
  case_mask [] (under true q) s i = out (refused refl refl) refl
  case_mask [] (under false q) s i = out (refused refl refl) refl
  case_mask (j ∷ hs) b s i =
      let P : Outcome → Type 0 = Out plan choose rank (j ∷ hs) b s (Mask i) in
      by_provided P (in_handler (line_place s j)) _ _ _ (out (refused refl refl) refl) (λ _.
      by_provided P (ltb i.0 (lines plan)) _ _ _ (out (refused refl refl) refl) (λ _. out masks refl))

  case_unmask : (hs : List LineNo) (b : Base) (s : State) (i : LineNo) → Out plan choose rank hs b s (Unmask i) (apply plan choose rank (Unmask i) (shaped hs b s))
  unfolding apply
  case_unmask [] (alone q) s i =
      let P : Outcome → Type 0 = Out plan choose rank [] (alone q) s (Unmask i) in
      by_provided P (in_application (task_of s s.current).place) _ _ _ (out (refused refl refl) refl) (λ _.
      by_provided P (ltb i.0 (lines plan)) _ _ _ (out (refused refl refl) refl) (λ _. out unmasks refl))
  case_unmask [] (under true q) s i = out (refused refl refl) refl
  case_unmask [] (under false q) s i = out (refused refl refl) refl
  case_unmask (j ∷ hs) b s i =
      let P : Outcome → Type 0 = Out plan choose rank (j ∷ hs) b s (Unmask i) in
      by_provided P (in_handler (line_place s j)) _ _ _ (out (refused refl refl) refl) (λ _.
      by_provided P (ltb i.0 (lines plan)) _ _ _ (out (refused refl refl) refl) (λ _. out unmasks refl))

  pub cases : (c : Call) (hs : List LineNo) (b : Base) (s : State) → Out plan choose rank hs b s c (apply plan choose rank c (shaped hs b s))
  cases (Raise i) hs b s = case_raise hs b s i
  cases (Enter i) hs b s = case_enter hs b s i
  cases Pend hs b s = case_pend hs b s
  cases Go hs b s = case_go hs b s
  cases (Signal set) hs b s = case_signal hs b s set
  cases Block hs b s = case_block hs b s
  cases (Post e) hs b s = case_post hs b s e
  cases Leave hs b s = case_leave hs b s
  cases (Mask i) hs b s = case_mask hs b s i
  cases (Unmask i) hs b s = case_unmask hs b s i

-- what holds at the start, and again after each case, holds after every list of calls
module _ (plan : Parts) (choose : Chooses) (rank : Ranks) (I : List LineNo → Base → State → List Answered → Type 0)
    (keeps : (c : Call) (hs : List LineNo) (b : Base) (s : State) (past : List Answered) (hs' : List LineNo) (b' : Base) (s' : State) (a : ℕ)
    → Case plan choose rank hs b s c hs' b' s' a → I hs b s past → I hs' b' s' (record { call = c; answer = a } ∷ past)) where
  pub data Held (h : History) : Type 0 where
    held : (hs : List LineNo) (b : Base) (s : State) → h.state ≡ shaped hs b s → I hs b s h.past → Held h

  from_out : (c : Call) (hs : List LineNo) (b : Base) (s : State) (past : List Answered) (r : Outcome) → Out plan choose rank hs b s c r → I hs b s past
      → Held (record { state = r.0; past = record { call = c; answer = r.1 } ∷ past })
  from_out c hs b s past r (out {hs'} {b'} {s'} {a} v e) i =
      held hs' b' s' (ap (λ x. x.0) e)
      (subst (λ x. I hs' b' s' (record { call = c; answer = x } ∷ past)) (sym (ap (λ x. x.1) e)) (keeps c hs b s past hs' b' s' a v i))

  pub held_step : (c : Call) (h : History) → Held h → Held (step plan choose rank c h)
  unfolding step
  held_step c h (held hs b s e i) =
      subst (λ n. Held (record { state = (apply plan choose rank c n).0; past = record { call = c; answer = (apply plan choose rank c n).1 } ∷ h.past })) (sym e)
      (from_out c hs b s h.past _ (cases plan choose rank c hs b s) i)

  held_run : (calls : List Call) (h : History) → Held h → Held (run plan choose rank calls h)
  unfolding run
  held_run [] h k = k
  held_run (c ∷ calls) h k = held_run calls (step plan choose rank c h) (held_step c h k)

  pub held_start : I [] (under true Copying) (start plan) [] → Held (record { state = start plan; past = [] })
  held_start i = held [] (under true Copying) (start plan) refl i

  pub held_after : I [] (under true Copying) (start plan) [] → (calls : List Call) → Held (after plan choose rank calls)
  held_after i calls = held_run calls _ (held_start i)
