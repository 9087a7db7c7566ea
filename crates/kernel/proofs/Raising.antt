-- A line's new raises are its accepted enters, plus one exactly when it is pending.
use Rattle.std.proofs.Common.{◌≡◌, ℕ, ◌+◌, ◌^◌, ◌<◌, ◌≤◌, Bool, true, false, cond, not, ◌&&◌, ◌||◌, eqb, List, ◌∷◌, refl, ap, ◌∙◌, arith}
use Rattle.std.proofs.lemmas.Bool.{eqb-true}
use Rattle.numbers.specs.declared.number.LineNo.{LineNo}
use Rattle.numbers.specs.Sets.{has}
use Rattle.numbers.proofs.Members.{has_minus, has_power, has_with_member, none_in_empty}
use Rattle.board.specs.Plans.{Parts}
use Rattle.kernel.specs.declared.call.Call.{Call}
use Rattle.kernel.specs.declared.call.Call.TheVariants.{Raise, Enter, Pend, Go, Signal, Block, Post, Leave, Mask, Unmask}
use Rattle.kernel.specs.States.{State}
use Rattle.kernel.specs.Rules.{Chooses, Ranks, lines}
use Rattle.kernel.specs.Histories.{Answered, History, after}
use Rattle.kernel.specs.Afterwards.{RaisesAreEnteredOrPending, accepted_enter, accepted_enters, new_raise, new_raises}
use Rattle.kernel.proofs.Cases.{Base, Case, refused, raises, enters, pends, adds, requests, opens, waits, resumes, unreadies, yields, copies, wakes, clears, idles, chooses, notes, switches, switches_none, loads, returns_again, returns_back, handler_requests, signals, blocks, posts, leaves_again, leaves_back, masks, unmasks, Held, held, held_after}

module _ (plan : Parts) (few : lines plan ≤ 16) where
  abbrev Counted : ℕ → List Answered → Type 0
  Counted pending past = (i : LineNo) → i.0 < lines plan → new_raises i past ≡ accepted_enters i past + cond (has pending i.0) 1 0

  and_false : (v w : Bool) → w ≡ false → cond {A = ℕ} (v && w) 1 0 ≡ 0
  and_false true w e = rw e
  and_false false w e = refl

  not_new : (i : LineNo) (c : Call) (a : ℕ) → eqb a 100 ≡ false → new_raise i c a ≡ 0
  not_new i (Raise j) a e = and_false (eqb i.0 j.0) _ e
  not_new i (Enter j) a e = refl
  not_new i Pend a e = refl
  not_new i Go a e = refl
  not_new i (Signal set) a e = refl
  not_new i Block a e = refl
  not_new i (Post j) a e = refl
  not_new i Leave a e = refl
  not_new i (Mask j) a e = refl
  not_new i (Unmask j) a e = refl

  not_entry : (i : LineNo) (c : Call) (a : ℕ) → eqb a 0 ≡ false → accepted_enter i c a ≡ 0
  not_entry i (Raise j) a e = refl
  not_entry i (Enter j) a e = and_false (eqb i.0 j.0) _ e
  not_entry i Pend a e = refl
  not_entry i Go a e = refl
  not_entry i (Signal set) a e = refl
  not_entry i Block a e = refl
  not_entry i (Post j) a e = refl
  not_entry i Leave a e = refl
  not_entry i (Mask j) a e = refl
  not_entry i (Unmask j) a e = refl

  -- a call that is counted nowhere
  quiet : (pending : ℕ) (past : List Answered) (c : Call) (a : ℕ) → ((i : LineNo) → new_raise i c a ≡ 0) → ((i : LineNo) → accepted_enter i c a ≡ 0)
      → Counted pending past → Counted pending (record { call = c; answer = a } ∷ past)
  quiet pending past c a n e k i low = rw (n i, e i) (omega (arith, k i low))

  raised_sum : (v w p : Bool) (n m : ℕ) → (v ≡ true → w ≡ false) → n ≡ m + cond w 1 0 → cond {A = ℕ} (v && true) 1 0 + n ≡ (0 + m) + cond (w || v) 1 0
  raised_sum true true p n m apart h = let z : ◌≡◌ {A = ℕ} 0 1 = clash (apart refl) in absurd (omega arith)
    where
      clash : true ≡ false → ◌≡◌ {A = ℕ} 0 1
      clash e = cc
  raised_sum true false p n m apart h = omega arith
  raised_sum false true p n m apart h = omega arith
  raised_sum false false p n m apart h = omega arith

  entered_sum : (v w p : Bool) (n m : ℕ) → (v ≡ true → w ≡ true) → n ≡ m + cond w 1 0 → 0 + n ≡ (cond {A = ℕ} (v && true) 1 0 + m) + cond (w && not v) 1 0
  entered_sum true true p n m same h = omega arith
  entered_sum true false p n m same h = let z : ◌≡◌ {A = ℕ} 0 1 = clash (same refl) in absurd (omega arith)
    where
      clash : false ≡ true → ◌≡◌ {A = ℕ} 0 1
      clash e = cc
  entered_sum false true p n m same h = omega arith
  entered_sum false false p n m same h = omega arith

  module _ (choose : Chooses) (rank : Ranks) where
    keeps : {c : Call} {hs : List LineNo} {b : Base} {s : State} {hs' : List LineNo} {b' : Base} {s' : State} {a : ℕ} (past : List Answered)
        → Case plan choose rank hs b s c hs' b' s' a → Counted s.pending past → Counted s'.pending (record { call = c; answer = a } ∷ past)
    keeps past (refused {s = s} {c = c} {n = n} e f) k = quiet s.pending past c n (λ i. not_new i c n f) (λ i. not_entry i c n e) k
    keeps past (raises {s = s} {i = j} h p) k = λ i low.
        rw (has_with_member s.pending j.0 i.0 (omega arith))
        (raised_sum (eqb i.0 j.0) (has s.pending i.0) true _ _
        (λ e. ap (has s.pending) (eqb-true i.0 j.0 e) ∙ p) (k i low))
    keeps past (enters {s = s} {i = j} h p _) k = λ i low.
        rw (has_minus s.pending (2 ^ j.0) i.0, has_power j.0 i.0)
        (entered_sum (eqb i.0 j.0) (has s.pending i.0) true _ _
        (λ e. ap (has s.pending) (eqb-true i.0 j.0 e) ∙ p) (k i low))
    keeps past (pends {s = s} _ _) k = quiet s.pending past Pend 0 (λ i. refl) (λ i. refl) k
    keeps past (adds {s = s} _) k = quiet s.pending past Go 0 (λ i. refl) (λ i. refl) k
    keeps past (requests {s = s} _) k = quiet s.pending past Go 0 (λ i. refl) (λ i. refl) k
    keeps past (opens {s = s} _) k = quiet s.pending past Go 0 (λ i. refl) (λ i. refl) k
    keeps past (waits {s = s}) k = quiet s.pending past Go 0 (λ i. refl) (λ i. refl) k
    keeps past (resumes {s = s} _ _) k = quiet s.pending past Go 0 (λ i. refl) (λ i. refl) k
    keeps past (unreadies {s = s} _) k = quiet s.pending past Go 0 (λ i. refl) (λ i. refl) k
    keeps past (yields {s = s} _) k = quiet s.pending past Go 0 (λ i. refl) (λ i. refl) k
    keeps past (copies {s = s}) k = quiet s.pending past Go 0 (λ i. refl) (λ i. refl) k
    keeps past (wakes {s = s}) k = quiet s.pending past Go 0 (λ i. refl) (λ i. refl) k
    keeps past (clears {s = s}) k = quiet s.pending past Go 0 (λ i. refl) (λ i. refl) k
    keeps past (idles {s = s}) k = quiet s.pending past Go 0 (λ i. refl) (λ i. refl) k
    keeps past (chooses {s = s} _) k = quiet s.pending past Go 0 (λ i. refl) (λ i. refl) k
    keeps past (notes {s = s}) k = quiet s.pending past Go 0 (λ i. refl) (λ i. refl) k
    keeps past (switches {s = s} _) k = quiet s.pending past Go 0 (λ i. refl) (λ i. refl) k
    keeps past (switches_none {s = s} _) k = quiet s.pending past Go 0 (λ i. refl) (λ i. refl) k
    keeps past (loads {s = s}) k = quiet s.pending past Go 0 (λ i. refl) (λ i. refl) k
    keeps past (returns_again {s = s} _ _) k = quiet s.pending past Go 0 (λ i. refl) (λ i. refl) k
    keeps past (returns_back {s = s} _) k = quiet s.pending past Go 0 (λ i. refl) (λ i. refl) k
    keeps past (handler_requests {s = s} _) k = quiet s.pending past Go 0 (λ i. refl) (λ i. refl) k
    keeps past (signals {s = s} {set = set} _ _) k = quiet s.pending past (Signal set) 0 (λ i. refl) (λ i. refl) k
    keeps past (blocks {s = s} _) k = quiet s.pending past Block 0 (λ i. refl) (λ i. refl) k
    keeps past (posts {s = s} {e = e} _) k = quiet s.pending past (Post e) 0 (λ i. refl) (λ i. refl) k
    keeps past (leaves_again {s = s} _ _ _) k = quiet s.pending past Leave 0 (λ i. refl) (λ i. refl) k
    keeps past (leaves_back {s = s} _ _) k = quiet s.pending past Leave 0 (λ i. refl) (λ i. refl) k
    keeps past (masks {s = s} {i = j}) k = quiet s.pending past (Mask j) 0 (λ i. refl) (λ i. refl) k
    keeps past (unmasks {s = s} {i = j}) k = quiet s.pending past (Unmask j) 0 (λ i. refl) (λ i. refl) k

    abbrev I : List LineNo → Base → State → List Answered → Type 0
    I hs b s past = Counted s.pending past

    from_held : (h : History) → Held plan choose rank I (λ c hs b s past hs' b' s' a v k. keeps past v k) h → RaisesAreEnteredOrPending plan h
    from_held h (held hs b s e k) = λ i low. rw e (k i low)

    pub raising_after : (calls : List Call) → RaisesAreEnteredOrPending plan (after plan choose rank calls)
    raising_after calls =
        from_held _ (held_after plan choose rank I (λ c hs b s past hs' b' s' a v k. keeps past v k) (λ i low. rw (none_in_empty i.0) refl) calls)
