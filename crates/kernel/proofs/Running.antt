-- A task in application code is the one that the policy chooses.
use Rattle.std.proofs.Common.{◌≡◌, ℕ, zero, suc, ◌^◌, ◌<◌, Bool, true, false, cond, ◌&&◌, ◌||◌, eqb, ◌≢◌, ◌⊎◌, List, [], ◌∷◌, length, get_or, set, replicate, Some, sym, refl, ap, ◌∙◌, subst, inl, inr, lt_of_lt_of_le, arith, length-set, get_or-set_other, get_or-set_same, pow_pos, pow_mono}
use lib.Bits.{bit_or, or_zero_r, or_lt}
use lib.ListN.{length-replicate}
use Rattle.std.proofs.lemmas.Bool.{eqb-true, eqb-false, true≢false}
use Rattle.numbers.specs.declared.number.LineNo.{LineNo}
use Rattle.numbers.specs.declared.number.TaskNo.{TaskNo}
use Rattle.numbers.specs.Sets.{has}
use Rattle.numbers.proofs.Members.{member_small, minus_self, minus_small, none_in_empty}
use Rattle.board.specs.Plans.{Parts}
use Rattle.kernel.specs.declared.call.Call.{Call}
use Rattle.kernel.specs.declared.place.LinePlace.{LinePlace}
use Rattle.kernel.specs.declared.place.LinePlace.TheVariants.{Idle, Handling, Posted}
use Rattle.kernel.specs.declared.place.SchedulerPlace.{SchedulerPlace}
use Rattle.kernel.specs.declared.place.SchedulerPlace.TheVariants.{Copying, Waking, Clearing, Choosing, Noting, Switching, Loading, Returning}
use Rattle.kernel.specs.declared.place.TaskPlace.{TaskPlace}
use Rattle.kernel.specs.declared.place.TaskPlace.TheVariants.{Application, Adding, Requesting, Opening, Waiting, Blocking, Yielding}
use Rattle.kernel.specs.States.{Record, State, start, fresh, with_enabled, with_pending, with_delayed, with_request, with_current, with_ready, with_posted, with_lines, task_of, with_task, at_place, at_resume, with_line}
use Rattle.kernel.specs.Rules.{Chooses, Ranks, lines, tasks, woken, woken_below}
use Rattle.kernel.specs.Histories.{Answered, History, after}
use Rattle.kernel.specs.Afterwards.{RunningTaskIsThePolicysChoice}
use Rattle.kernel.proofs.Owing.{KeepsPolicy}
use Rattle.kernel.proofs.Legal.{Legal}
use Rattle.kernel.proofs.Cases.{Base, alone, under, shaped, Returns, Case, refused, raises, enters, pends, adds, requests, opens, waits, resumes, unreadies, yields, copies, wakes, clears, idles, chooses, notes, switches, switches_none, loads, returns_again, returns_back, handler_requests, signals, blocks, posts, leaves_again, leaves_back, masks, unmasks, Held, held, held_after}
use Rattle.kernel.proofs.Nesting.{AllFrom, Rising, Nests, nests_keeps, inmost}

clash : {A : Type 0} → false ≡ true → A
clash e = absurd (true≢false (sym e))

-- sets that events wake

none_woken : (n : ℕ) (ws : List ℕ) → woken_below n ws 0 ≡ 0
unfolding woken_below
none_woken zero ws = refl
none_woken (suc n) ws = rw (none_in_empty n) (none_woken n ws)

woken_small : (T n : ℕ) (ws : List ℕ) (events : ℕ) → ((e : ℕ) → get_or ws e 0 < 2 ^ T) → woken_below n ws events < 2 ^ T
unfolding woken_below
woken_small T zero ws events h = pow_pos T
woken_small T (suc n) ws events h = by_member (has events n) (woken_small T n ws events h)
  where
    by_member : (v : Bool) → woken_below n ws events < 2 ^ T → cond v (bit_or (woken_below n ws events) (get_or ws n 0)) (woken_below n ws events) < 2 ^ T
    by_member true before = or_lt T _ _ before (h n)
    by_member false before = before

-- what holds of every task's record, and of the one written, holds after
every_set : (P : Record → Type 0) (rs : List Record) (j : ℕ) (r : Record) → ((t : ℕ) → P (get_or rs t fresh)) → P r → (t : ℕ) → P (get_or (set rs j r) t fresh)
every_set P [] j r all p t = all t
every_set P (x ∷ xs) zero r all p zero = p
every_set P (x ∷ xs) zero r all p (suc t) = all (suc t)
every_set P (x ∷ xs) (suc j) r all p zero = all zero
every_set P (x ∷ xs) (suc j) r all p (suc t) = every_set P xs j r (λ u. all (suc u)) p t

-- the places of a task at which the delayed scheduler is enabled
abbrev open_at : TaskPlace → Bool
open_at Application = true
open_at Adding = false
open_at Requesting = false
open_at Opening = false
open_at Waiting = true
open_at Blocking = false
open_at Yielding = false

-- the places at which the policy's choice is due
abbrev Due : TaskPlace → Type 0
Due Application = Unit {0}
Due Adding = ⊥
Due Requesting = ⊥
Due Opening = Unit {0}
Due Waiting = Unit {0}
Due Blocking = ⊥
Due Yielding = ⊥

due_if_open : (p : TaskPlace) → open_at p ≡ true → Due p
due_if_open Application e = tt
due_if_open Adding e = clash e
due_if_open Requesting e = clash e
due_if_open Opening e = tt
due_if_open Waiting e = tt
due_if_open Blocking e = clash e
due_if_open Yielding e = clash e

abbrev has_posted : LinePlace → Bool
has_posted Idle = false
has_posted Handling = false
has_posted Posted = true

-- whether a handler of the list has posted and not yet set the request
abbrev will_request : List LinePlace → List LineNo → Bool
will_request ps [] = false
will_request ps (i ∷ hs) = has_posted (get_or ps i.0 Idle) || will_request ps hs

-- the request is on, or a handler will set it
abbrev Requested : List LineNo → State → Type 0
Requested hs s = (s.request || will_request s.lines hs) ≡ true

-- the record of a task that waits to be scheduled again
record Rested (r : Record) : Type 0 where
  due : Due r.place
  flag : r.resume ≡ open_at r.place

-- the current task was left for the delayed scheduler, or for the direct one
abbrev LeftFor : Bool → State → Type 0
LeftFor d s = Due (task_of s s.current).place × (open_at (task_of s s.current).place ≡ d)

-- no request stands over application code
abbrev Calm : List LineNo → TaskPlace → Bool → Type 0
Calm [] p r = p ≡ Application → r ≡ false
Calm (i ∷ hs) p r = Unit {0}

abbrev CalmAt : Base → List LineNo → TaskPlace → Bool → Type 0
CalmAt (alone q) hs p r = Calm hs p r
CalmAt (under d q) hs p r = Unit {0}

calm_in : (b : Base) (i : LineNo) (hs : List LineNo) (p : TaskPlace) (r : Bool) → CalmAt b (i ∷ hs) p r
calm_in (alone q) i hs p r = tt
calm_in (under d q) i hs p r = tt

-- booleans

or_more : (r x o : Bool) → (r || o) ≡ true → (r || (x || o)) ≡ true
or_more true x o e = refl
or_more false true o e = refl
or_more false false o e = e

or_mid : (r o : Bool) → (r || (true || o)) ≡ true
or_mid true o = refl
or_mid false o = refl

and_off : (r o : Bool) → o ≡ true → (r && o) ≡ false → r ≡ false
and_off true o e f = clash (sym f ∙ e)
and_off false o e f = refl

-- a line's place is written, and the handlers of the list have higher ranks
will_request_apart : (rank : Ranks) (ps : List LinePlace) (i : LineNo) (p : LinePlace) (hs : List LineNo)
    → AllFrom rank (suc (rank i)) hs → will_request (set ps i.0 p) hs ≡ will_request ps hs
will_request_apart rank ps i p [] a = refl
will_request_apart rank ps i p (j ∷ hs) a =
    let other : j.0 ≢ i.0 = λ e. let same : j ≡ i = ap (λ n. record { 0 = n }) e in omega (arith, ap rank same, a.0) in
    rw (get_or-set_other ps i.0 j.0 p Idle other, will_request_apart rank ps i p hs a.1)

-- of the tables, the current task and the ready set, wherever the calls have led
record Common (plan : Parts) (rs : List Record) (ps : List LinePlace) (current : TaskNo) (ready : ℕ) : Type 0 where
  sized : length rs ≡ 16
  lined : length ps ≡ 16
  known : current.0 < tasks plan
  ready_known : ready < 2 ^ tasks plan
  kept_known : (t : ℕ) → (get_or rs t fresh).kept < 2 ^ tasks plan
  others : (t : ℕ) → t ≢ current.0 → Rested (get_or rs t fresh)

module _ (plan : Parts) (choose : Chooses) where
  abbrev Chosen : State → TaskNo → Type 0
  Chosen s t = choose (bit_or s.ready (woken plan.wakes s.posted)) t ≡ Some t

  abbrev Settled : List LineNo → State → TaskNo → Type 0
  Settled hs s t = Requested hs s ⊎ Chosen s t

  abbrev Picked : List LineNo → State → Type 0
  Picked hs s = (t : TaskNo) × (s.chosen ≡ Some t) × (t.0 < tasks plan) × Settled hs s t

  abbrev AtTask : TaskPlace → List LineNo → State → Type 0
  AtTask p hs s = (s.delayed ≡ open_at p) × (Due p → Settled hs s s.current) × Calm hs p s.request

  abbrev AtScheduler : Bool → SchedulerPlace → List LineNo → State → Type 0
  AtScheduler d Copying hs s = LeftFor d s
  AtScheduler d Waking hs s = LeftFor d s × (Requested hs s ⊎ (s.posted ≡ s.copied))
  AtScheduler d Clearing hs s = LeftFor d s × (Requested hs s ⊎ (s.posted ≡ s.copied))
  AtScheduler d Choosing hs s = LeftFor d s × (Requested hs s ⊎ (s.posted ≡ 0))
  AtScheduler d Noting hs s = LeftFor d s × Picked hs s
  AtScheduler d Switching hs s = Rested (task_of s s.current) × Picked hs s
  AtScheduler d Loading hs s = Rested (task_of s s.current) × Settled hs s s.current
  AtScheduler d Returning hs s = Rested (task_of s s.current) × Settled hs s s.current × (s.delayed ≡ (task_of s s.current).resume)

  abbrev Here : Base → List LineNo → State → Type 0
  Here (alone q) hs s = AtTask (task_of s s.current).place hs s
  Here (under d q) hs s = AtScheduler d q hs s

  abbrev Invariant : List LineNo → Base → State → Type 0
  Invariant hs b s = Common plan s.tasks s.lines s.current s.ready × Here b hs s

  -- a change of line places, request and posted events alone: what handlers do
  module _ (s : State) (hs hs' : List LineNo) (ps : List LinePlace) (r : Bool) (posted : ℕ)
      (stays : Requested hs s → (r || will_request ps hs') ≡ true) (told : ((r || will_request ps hs') ≡ true) ⊎ (posted ≡ s.posted)) where
    abbrev changed : State
    changed = with_lines ps (with_request r (with_posted posted s))

    settled_on : (t : TaskNo) → Settled hs s t → Settled hs' changed t
    settled_on t (inl w) = inl (stays w)
    settled_on t (inr g) = elim told [ inl w ↦ inl w | inr e ↦ inr (rw e g) ]

    told_on : (X : ℕ) → Requested hs s ⊎ (s.posted ≡ X) → Requested hs' changed ⊎ (posted ≡ X)
    told_on X (inl w) = inl (stays w)
    told_on X (inr g) = elim told [ inl w ↦ inl w | inr e ↦ inr (e ∙ g) ]

    picked_on : Picked hs s → Picked hs' changed
    picked_on k = (k.0, k.1, k.2, settled_on k.0 k.3)

    scheduler_on : (d : Bool) (q : SchedulerPlace) → AtScheduler d q hs s → AtScheduler d q hs' changed
    scheduler_on d Copying k = k
    scheduler_on d Waking k = (k.0, told_on s.copied k.1)
    scheduler_on d Clearing k = (k.0, told_on s.copied k.1)
    scheduler_on d Choosing k = (k.0, told_on 0 k.1)
    scheduler_on d Noting k = (k.0, picked_on k.1)
    scheduler_on d Switching k = (k.0, picked_on k.1)
    scheduler_on d Loading k = (k.0, settled_on s.current k.1)
    scheduler_on d Returning k = (k.0, settled_on s.current k.1, k.2)

    here_on : (b : Base) → CalmAt b hs' (task_of s s.current).place r → Here b hs s → Here b hs' changed
    here_on (alone q) o k = (k.0, λ z. settled_on s.current (k.1 z), o)
    here_on (under d q) o k = scheduler_on d q k

  common_line : {rs : List Record} {ps : List LinePlace} {c : TaskNo} {R : ℕ} (j : ℕ) (p : LinePlace) → Common plan rs ps c R → Common plan rs (set ps j p) c R
  common_line {ps = ps} j p k = record {
    sized = k.sized;
    lined = length-set ps j p ∙ k.lined;
    known = k.known;
    ready_known = k.ready_known;
    kept_known = k.kept_known;
    others = k.others;
  }

  common_ready : {rs : List Record} {ps : List LinePlace} {c : TaskNo} {R : ℕ} (R' : ℕ) → R' < 2 ^ tasks plan → Common plan rs ps c R → Common plan rs ps c R'
  common_ready R' h k = record {
    sized = k.sized;
    lined = k.lined;
    known = k.known;
    ready_known = h;
    kept_known = k.kept_known;
    others = k.others;
  }

  -- the current task's record is written
  common_task : {rs : List Record} {ps : List LinePlace} {c : TaskNo} {R : ℕ} (r : Record) → r.kept < 2 ^ tasks plan → Common plan rs ps c R → Common plan (set rs c.0 r) ps c R
  common_task {rs = rs} {c = c} r h k = record {
    sized = length-set rs c.0 r ∙ k.sized;
    lined = k.lined;
    known = k.known;
    ready_known = k.ready_known;
    kept_known = every_set (λ x. x.kept < 2 ^ tasks plan) rs c.0 r k.kept_known h;
    others = λ t ne. rw (get_or-set_other rs c.0 t r fresh ne) (k.others t ne);
  }

  -- every task is at rest, once the current one is
  all_rest : {rs : List Record} {ps : List LinePlace} {c : TaskNo} {R : ℕ} → Common plan rs ps c R → Rested (get_or rs c.0 fresh) → (t : ℕ) → Rested (get_or rs t fresh)
  all_rest {rs = rs} {c = c} k z t = by_test (eqb t c.0) refl
    where
      by_test : (v : Bool) → eqb t c.0 ≡ v → Rested (get_or rs t fresh)
      by_test true e = rw (eqb-true t c.0 e) z
      by_test false e = k.others t (eqb-false t c.0 e)

  common_switch : {rs : List Record} {ps : List LinePlace} {c : TaskNo} {R : ℕ} (t : TaskNo) → t.0 < tasks plan → Rested (get_or rs c.0 fresh) → Common plan rs ps c R → Common plan rs ps t R
  common_switch t h z k = record {
    sized = k.sized;
    lined = k.lined;
    known = h;
    ready_known = k.ready_known;
    kept_known = k.kept_known;
    others = λ u _. all_rest k z u;
  }

  calm_of : (b : Base) (hs : List LineNo) (s : State) → Here b hs s → CalmAt b hs (task_of s s.current).place s.request
  calm_of (alone q) hs s k = k.2
  calm_of (under d q) hs s k = tt

  calm_left : (hs : List LineNo) (b : Base) (i : LineNo) (s : State) → Returns hs b s → Here b (i ∷ hs) s → CalmAt b hs (task_of s s.current).place s.request
  calm_left [] (alone q) i s f k = λ e. and_off s.request s.delayed (k.0 ∙ ap open_at e) f
  calm_left [] (under d q) i s f k = tt
  calm_left (j ∷ hs) (alone q) i s f k = tt
  calm_left (j ∷ hs) (under d q) i s f k = tt

  -- pending and enabled lines play no part
  same_here : (b : Base) (hs : List LineNo) (s : State) (on raised : ℕ) → Here b hs s → Here b hs (with_enabled on (with_pending raised s))
  same_here (alone q) hs s on raised k = k
  same_here (under d Copying) hs s on raised k = k
  same_here (under d Waking) hs s on raised k = k
  same_here (under d Clearing) hs s on raised k = k
  same_here (under d Choosing) hs s on raised k = k
  same_here (under d Noting) hs s on raised k = k
  same_here (under d Switching) hs s on raised k = k
  same_here (under d Loading) hs s on raised k = k
  same_here (under d Returning) hs s on raised k = k

  module _ (rank : Ranks) (legal : Legal plan) (policy : KeepsPolicy choose) where
    written : {rs : List Record} {ps : List LinePlace} {c : TaskNo} {R : ℕ} (r : Record) → Common plan rs ps c R → get_or (set rs c.0 r) c.0 fresh ≡ r
    written {rs = rs} {c = c} r k = get_or-set_same rs c.0 r fresh (omega (arith, k.sized, k.known, legal.few_tasks))

    -- the current task's record is written, and it is alone
    alone_on : (s : State) (q : SchedulerPlace) (r : Record) (R : ℕ) (on want : Bool) → r.kept < 2 ^ tasks plan → R < 2 ^ tasks plan
        → Common plan s.tasks s.lines s.current s.ready
        → let s' : State = with_request want (with_delayed on (with_ready R (with_task s.current r s))) in AtTask r.place [] s' → Invariant [] (alone q) s'
    alone_on s q r R on want h l c k =
        let s' : State = with_request want (with_delayed on (with_ready R (with_task s.current r s))) in
        (common_ready R l (common_task r h c), subst (λ x. AtTask x.place [] s') (sym (written r c)) k)

    running_keeps : {c : Call} {hs : List LineNo} {b : Base} {s : State} {hs' : List LineNo} {b' : Base} {s' : State} {a : ℕ}
        → Case plan choose rank hs b s c hs' b' s' a → Rising rank (lines plan) hs → Invariant hs b s → Invariant hs' b' s'
    running_keeps (refused _ _) up k = k
    running_keeps (raises {hs} {b} {s} h p) up k = (k.0, same_here b hs s _ _ k.1)
    running_keeps (enters {hs} {b} {s} {i} h p w) up k =
        let apart = will_request_apart rank s.lines i Handling hs (inmost rank (lines plan) i hs b s.current w up) in (
          common_line i.0 Handling k.0,
          same_here b (i ∷ hs) (with_line i Handling s) _ _
              (here_on s hs (i ∷ hs) (set s.lines i.0 Handling) s.request s.posted (λ z. rw apart (or_more s.request _ _ z)) (inr refl) b (calm_in b i hs _ _) k.1),
        )
    running_keeps (pends {q} {s} r o) up k = (k.0, (due_if_open _ (sym k.1.0 ∙ o), sym k.1.0 ∙ o))
    running_keeps (adds {q} {s} e) up k =
        alone_on s q _ _ s.delayed s.request (k.0.kept_known s.current.0) (or_lt (tasks plan) _ _ k.0.ready_known (k.0.kept_known s.current.0)) k.0
        (k.1.0 ∙ ap open_at e, λ z. absurd z, λ z. cc)
    running_keeps (requests {q} {s} e) up k =
        alone_on s q _ _ s.delayed true (k.0.kept_known s.current.0) k.0.ready_known k.0
        (k.1.0 ∙ ap open_at e, λ z. inl refl, λ z. cc)
    running_keeps (opens {q} {s} e) up k =
        alone_on s q _ _ true s.request (k.0.kept_known s.current.0) k.0.ready_known k.0
        (refl, λ z. k.1.1 (subst Due (sym e) tt), λ z. cc)
    running_keeps waits up k = k
    running_keeps (resumes {q} {s} e r) up k =
        alone_on s q _ _ s.delayed s.request (k.0.kept_known s.current.0) k.0.ready_known k.0
        (k.1.0 ∙ ap open_at e, λ z. k.1.1 (subst Due (sym e) tt), λ z. r)
    running_keeps (unreadies {q} {s} e) up k =
        alone_on s q _ _ s.delayed s.request (k.0.kept_known s.current.0) (minus_small (tasks plan) s.ready (2 ^ s.current.0) k.0.ready_known) k.0
        (k.1.0 ∙ ap open_at e, λ z. absurd z, λ z. cc)
    running_keeps (yields {q} {s} e) up k =
        let r : Record = at_place Opening (task_of s s.current) in (
          common_task r (k.0.kept_known s.current.0) k.0,
          subst (λ x. Due x.place × (open_at x.place ≡ false)) (sym (written r k.0)) (tt, refl),
        )
    running_keeps copies up k = (k.0, (k.1, inr refl))
    running_keeps (wakes {d} {s}) up k =
        (common_ready _ (or_lt (tasks plan) _ _ k.0.ready_known (woken_small (tasks plan) (length plan.wakes) plan.wakes s.copied legal.wakes)) k.0, k.1)
    running_keeps (clears {d} {s}) up k = (k.0, (k.1.0, elim k.1.1 [ inl w ↦ inl w | inr e ↦ inr (rw e (minus_self s.copied)) ]))
    running_keeps idles up k = (k.0, k.1.0)
    running_keeps (chooses {d} {s} {t} e) up k =
        let wide : s.ready < 2 ^ 16 = lt_of_lt_of_le k.0.ready_known (pow_mono legal.few_tasks) in (
          k.0,
          (
            k.1.0,
            (
              t,
              refl,
              member_small s.ready (tasks plan) t.0 k.0.ready_known (policy.member _ _ wide t e),
              elim k.1.1 [ inl w ↦ inl w | inr z ↦ inr (rw (z, none_woken (length plan.wakes) plan.wakes, or_zero_r s.ready) (policy.settles _ _ t wide e)) ],
            ),
          ),
        )
    running_keeps (notes {d} {s}) up k =
        let r : Record = at_resume d (task_of s s.current) in (
          common_task r (k.0.kept_known s.current.0) k.0,
          (subst Rested (sym (written r k.0)) (record { due = k.1.0.0; flag = sym k.1.0.1 }), k.1.1),
        )
    running_keeps (switches {d} {s} {t} e) up k =
        let p = k.1.1 in
        let same : p.0 ≡ t = cc in
        subst (λ x. Invariant [] (under d Loading) (with_current x s)) same
        (common_switch p.0 p.2 k.1.0 k.0, (all_rest k.0 k.1.0 p.0.0, p.3))
    running_keeps (switches_none {d} {s} e) up k = let p = k.1.1 in let z : ◌≡◌ {A = ℕ} 0 1 = cc in absurd (omega arith)
    running_keeps loads up k = (k.0, (k.1.0, k.1.1, refl))
    running_keeps (returns_again {d} {s} r o) up k = (k.0, (k.1.0.due, sym (k.1.2 ∙ k.1.0.flag) ∙ o))
    running_keeps (returns_back {d} {s} f) up k =
        let on = k.1.2 ∙ k.1.0.flag in
        (k.0, (on, λ _. k.1.1, λ e. and_off s.request s.delayed (on ∙ ap open_at e) f))
    running_keeps (handler_requests {i} {hs} {b} {s} e) up k =
        (common_line i.0 _ k.0, here_on s (i ∷ hs) (i ∷ hs) _ true s.posted (λ _. refl) (inl refl) b (calm_in b i hs _ _) k.1)
    running_keeps (signals {q} {s} e h) up k =
        alone_on s q _ _ false s.request h k.0.ready_known k.0 (refl, λ z. absurd z, λ z. cc)
    running_keeps (blocks {q} {s} e) up k =
        alone_on s q _ _ false s.request (k.0.kept_known s.current.0) k.0.ready_known k.0 (refl, λ z. absurd z, λ z. cc)
    running_keeps (posts {i} {hs} {b} {s} {e} z) up k =
        let ps : List LinePlace = set s.lines i.0 Posted in
        let here = get_or-set_same s.lines i.0 Posted Idle (omega (arith, up.0, k.0.lined, legal.few_lines)) in
        let now : (s.request || will_request ps (i ∷ hs)) ≡ true = rw here (or_mid s.request (will_request ps hs)) in
        (common_line i.0 Posted k.0, here_on s (i ∷ hs) (i ∷ hs) ps s.request _ (λ _. now) (inl now) b (calm_in b i hs _ _) k.1)
    running_keeps (leaves_again {i} {q} {s} z r o) up k = (common_line i.0 _ k.0, (due_if_open _ (sym k.1.0 ∙ o), sym k.1.0 ∙ o))
    running_keeps (leaves_back {i} {hs} {b} {s} z f) up k =
        let apart = will_request_apart rank s.lines i Idle hs up.1 in (
          common_line i.0 Idle k.0,
          here_on s (i ∷ hs) hs (set s.lines i.0 Idle) s.request s.posted (λ w. rw apart (rw z at w)) (inr refl) b (calm_left hs b i s f k.1) k.1,
        )
    running_keeps (masks {hs} {b} {s}) up k = (k.0, same_here b hs s _ _ k.1)
    running_keeps (unmasks {hs} {b} {s}) up k = (k.0, same_here b hs s _ _ k.1)

    at_start : Invariant [] (under true Copying) (start plan)
    at_start = (
      record {
        sized = length-replicate 16 fresh;
        lined = length-replicate 16 Idle;
        known = legal.some_task;
        ready_known = legal.starts;
        kept_known = λ t. rw (blank 16 t) (pow_pos (tasks plan));
        others = λ t _. rw (blank 16 t) (record { due = tt; flag = refl });
      },
      (tt, refl),
    )
      where
        blank : (n t : ℕ) → get_or (replicate n fresh) t fresh ≡ fresh
        blank zero t = refl
        blank (suc n) zero = refl
        blank (suc n) (suc t) = blank n t

    -- what the invariant says of a task in application code
    running_from : (hs : List LineNo) (b : Base) (s : State) → Invariant hs b s → RunningTaskIsThePolicysChoice plan choose (shaped hs b s)
    running_from [] (alone q) s k t e z =
        let same : s.current ≡ t = cc in
        let at : (task_of s s.current).place ≡ Application = rw same z in
        let off : s.request ≡ false = k.1.2 at in
        elim (k.1.1 (subst Due (sym at) tt)) [ inl w ↦ clash (rw off at w) | inr g ↦ rw same at g ]
    running_from [] (under true q) s k t e z = cc
    running_from [] (under false q) s k t e z = cc
    running_from (i ∷ hs) b s k t e z = cc

    abbrev Both : List LineNo → Base → State → List Answered → Type 0
    Both hs b s past = Nests plan rank hs past × Invariant hs b s

    both_keep : (c : Call) (hs : List LineNo) (b : Base) (s : State) (past : List Answered) (hs' : List LineNo) (b' : Base) (s' : State) (a : ℕ)
        → Case plan choose rank hs b s c hs' b' s' a → Both hs b s past → Both hs' b' s' (record { call = c; answer = a } ∷ past)
    both_keep c hs b s past hs' b' s' a v k = (nests_keeps plan choose rank past v k.0, running_keeps v k.0.rises k.1)

    running_held : (h : History) → Held plan choose rank Both both_keep h → RunningTaskIsThePolicysChoice plan choose h.state
    running_held h (held hs b s e k) = rw e (running_from hs b s k.1)

    pub running_after : (calls : List Call) → RunningTaskIsThePolicysChoice plan choose (after plan choose rank calls).state
    running_after calls = running_held _ (held_after plan choose rank Both both_keep (record { same = refl; rises = tt }, at_start) calls)
