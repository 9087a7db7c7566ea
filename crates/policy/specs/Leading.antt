-- The policies `priority` and `shared`: stay among the members of highest priority.
use Rattle.std.specs.Prelude.{◌≡◌, ℕ, zero, suc, ◌+◌, ◌^◌, ◌<◌, ◌≤◌, max, true, false, ◌⊎◌, List, Some, None, Option, ◌==◌}
use Rattle.std.proofs.Math.Path.{refl}
use Rattle.std.proofs.Common.{sym, ◌∙◌, subst, inl, inr, ⊎_elim, add-one, arith}
use Rattle.std.proofs.lemmas.Bool.{cases_Bool, cases_lt, eqb-true, eq-eqb, cond-true, cond-false, and_parts, and_from}
use borrow.Author.Count.{below_more}
use Rattle.numbers.specs.declared.number.TaskNo.{TaskNo}
use Rattle.numbers.specs.Sets.{has}
use Rattle.policy.specs.Policies.{Exactly, counted, Nearest}
use Rattle.policy.specs.Priorities.{priority_of, NoneHigher, Foremost, HighestThenLowest, NearestOfHighest, StaysOrNearestOfHighest, highest_below, highest_priority, member_of_priority, leaders, by_priority, share}
use Rattle.numbers.proofs.Members.{no_member_empty, member_small, none_in_empty}
use Rattle.numbers.proofs.Gathering.{has_gathered, gathered_small}
use Rattle.policy.specs.Staying.{Answered, never, exactly_one_or_empty, stay_answers, stay_nearest, nearest_same}

module _ (ps : List ℕ) (s : ℕ) where
  highest_yes : (n : ℕ) → has s n ≡ true → highest_below (suc n) ps s ≡ max (priority_of ps n) (highest_below n ps s)
  unfolding highest_below
  highest_yes n h = cond-true _ _ _ h

  highest_no : (n : ℕ) → has s n ≡ false → highest_below (suc n) ps s ≡ highest_below n ps s
  unfolding highest_below
  highest_no n h = cond-false _ _ _ h

  -- from a number to the next
  pub highest_none : highest_below 0 ps s ≡ 0
  unfolding highest_below
  highest_none = refl

  pub highest_more_yes : (n : ℕ) → true ≡ has s n → highest_below (n + 1) ps s ≡ max (priority_of ps n) (highest_below n ps s)
  highest_more_yes n h = rw add-one (highest_yes n (sym h))

  pub highest_more_no : (n : ℕ) → false ≡ has s n → highest_below (n + 1) ps s ≡ highest_below n ps s
  highest_more_no n h = rw add-one (highest_no n (sym h))

  highest_over : (n u : ℕ) → u < n → has s u ≡ true → priority_of ps u ≤ highest_below n ps s
  highest_over zero u l = absurd (omega arith)
  highest_over (suc n) u l =
      let step = elim (cases_Bool (has s n)) as (λ _. highest_below n ps s ≤ highest_below (suc n) ps s) [
        | inl m ↦ omega (arith, highest_yes n m)
        | inr m ↦ omega (arith, highest_no n m)
      ] in
      below_more (λ u. has s u ≡ true → priority_of ps u ≤ highest_below (suc n) ps s) n
      (λ u below h. omega (arith, highest_over n u below h, step)) (λ m. omega (arith, highest_yes n m)) u (omega arith)

  highest_of_none : (n : ℕ) → ((u : ℕ) → u < n → has s u ≡ false) → highest_below n ps s ≡ 0
  highest_of_none zero none = highest_none
  highest_of_none (suc n) none = highest_no n (none n (omega arith)) ∙ highest_of_none n (λ u l. none u (omega arith))

  -- some member has the highest priority, unless there is no member
  abbrev Reached : ℕ → Type 0
  Reached n =
      ((u : ℕ) → u < n → has s u ≡ false)
      ⊎ ((u : ℕ) × (u < n) × (has s u ≡ true) × (priority_of ps u ≡ highest_below n ps s))

  reached : (n : ℕ) → Reached n
  reached zero = inl (λ u l. absurd (omega arith))
  reached (suc n) = elim (cases_Bool (has s n)) [
    | inl m ↦ elim (cases_lt (priority_of ps n) (highest_below n ps s)) [
      | inl less ↦ elim (reached n) [
        | inl none ↦ absurd (omega (arith, highest_of_none n none))
        | inr some ↦ inr (some.0, omega arith, some.2, some.3 ∙ omega (arith, highest_yes n m))
      ]
      | inr most ↦ inr (n, omega arith, m, omega (arith, highest_yes n m))
    ]
    | inr m ↦ elim (reached n) [
      | inl none ↦ inl (λ u l. below_more (λ u. has s u ≡ false) n none m u (omega arith))
      | inr some ↦ inr (some.0, omega arith, some.2, some.3 ∙ sym (highest_no n m))
    ]
  ]

  -- a leader is a member that none is higher than
  abbrev Leader : ℕ → Type 0
  Leader t = (has s t ≡ true) × NoneHigher ps s t

  from_leaders : (t : ℕ) → t < 16 → has (leaders ps s) t ≡ true → Leader t
  from_leaders t l h =
      let parts =
      and_parts (has s t) (priority_of ps t == highest_priority ps s)
      (sym (has_gathered (member_of_priority ps s (highest_priority ps s)) 16 t l) ∙ h) in
      let most = eqb-true (priority_of ps t) (highest_priority ps s) parts.1 in
      (parts.0, λ u low member. omega (arith, highest_over 16 u low member))

  of_highest : (t : ℕ) → t < 16 → has s t ≡ true → priority_of ps t ≡ highest_priority ps s → has (leaders ps s) t ≡ true
  of_highest t l h e = has_gathered (member_of_priority ps s (highest_priority ps s)) 16 t l ∙ and_from _ _ h (eq-eqb _ _ e)

  to_leaders : (t : ℕ) → t < 16 → Leader t → has (leaders ps s) t ≡ true
  to_leaders t l h =
      ⊎_elim
      (λ none. absurd (never s t h.0 (none t l)))
      (λ some. of_highest t l h.0 (omega (arith, highest_over 16 t l h.0, h.1 some.0 some.1 some.2, some.3)))
      (reached 16)

  leaders_small : leaders ps s < 2 ^ 16
  leaders_small = gathered_small (member_of_priority ps s (highest_priority ps s)) 16

  leader_low : (t : ℕ) → has (leaders ps s) t ≡ true → t < 16
  leader_low t h = member_small (leaders ps s) 16 t leaders_small h

  no_leaders : s < 2 ^ 16 → leaders ps s ≡ 0 → s ≡ 0
  no_leaders small e =
      ⊎_elim
      (λ none. no_member_empty s 16 small none)
      (λ some.
      let led = of_highest some.0 some.1 some.2 some.3 in
      absurd (never 0 some.0 (subst (λ v. has v some.0 ≡ true) e led) (none_in_empty some.0)))
      (reached 16)

  answered_leaders : s < 2 ^ 16 → (o : Option TaskNo) → Answered (leaders ps s) o → Answered s o
  answered_leaders small None e = no_leaders small e
  answered_leaders small (Some t) h = (from_leaders t.0 (leader_low t.0 h) h).0

  pub share_answers : s < 2 ^ 16 → (c : TaskNo) → Answered s (share ps s c)
  share_answers small c = answered_leaders small (share ps s c) (stay_answers (leaders ps s) c leaders_small)

  foremost : (t : TaskNo) → by_priority ps s ≡ Some t → Foremost ps s t.0
  foremost t e =
      let near : Nearest (leaders ps s) 0 t.0 = stay_nearest (leaders ps s) (record { 0 = 0 }) t e in
      let low = leader_low t.0 near.ready in
      let led = from_leaders t.0 low near.ready in
      record {
        ready = led.0;
        highest = led.1;
        lowest = λ u l h same.
            let also : has (leaders ps s) u ≡ true =
            to_leaders u l (h, λ v low member. omega (arith, led.1 v low member)) in
            ⊎_elim
            (λ (less : u < t.0).
            ⊎_elim
            (λ (above : 0 < u). absurd (never (leaders ps s) u also (near.skips u (l, omega arith, omega arith))))
            (λ (least : u ≤ 0).
            let at : u ≡ 0 = omega arith in
            let z : t.0 ≡ 0 = near.stays (subst (λ v. has (leaders ps s) v ≡ true) at also) in
            omega arith)
            (cases_lt 0 u))
            (λ (le : t.0 ≤ u). le)
            (cases_lt u t.0);
      }

  foremost_same : s < 2 ^ 16 → (t u : ℕ) → Foremost ps s t → Foremost ps s u → t ≡ u
  foremost_same small t u p q =
      let lt : t < 16 = member_small s 16 t small p.ready in
      let lu : u < 16 = member_small s 16 u small q.ready in
      let a = p.highest u lu q.ready in
      let b = q.highest t lt p.ready in
      let d = p.lowest u lu q.ready (omega arith) in
      let e = q.lowest t lt p.ready (omega arith) in
      omega arith

  pub by_priority_exactly : s < 2 ^ 16 → Exactly (HighestThenLowest ps s) (by_priority ps s)
  by_priority_exactly small =
      exactly_one_or_empty s (Foremost ps s) (λ t f. f.ready) (foremost_same small) (by_priority ps s)
      (share_answers small (record { 0 = 0 })) foremost

  module _ (c : ℕ) where
    to_nearest : (t : ℕ) → t < 16 → NearestOfHighest ps s c t → c < 16 → Nearest (leaders ps s) c t
    to_nearest t low n from =
        record {
          ready = to_leaders t low (n.ready, n.highest);
          stays = λ h. let led = from_leaders c from h in n.stays led.0 led.1;
          skips = λ u between.
              ⊎_elim
              (λ (h : has (leaders ps s) u ≡ true).
              let led = from_leaders u between.0 h in
              absurd (omega (arith, n.skips u between led.0, led.1 t low n.ready)))
              (λ (h : has (leaders ps s) u ≡ false). h)
              (cases_Bool (has (leaders ps s) u));
        }

    from_nearest : (t : ℕ) → Nearest (leaders ps s) c t → c < 16 → NearestOfHighest ps s c t
    from_nearest t n from =
        let low = leader_low t n.ready in
        let led = from_leaders t low n.ready in
        record {
          ready = led.0;
          highest = led.1;
          stays = λ h high. n.stays (to_leaders c from (h, high));
          skips = λ u between h.
              ⊎_elim
              (λ (less : priority_of ps u < priority_of ps t). less)
              (λ (le : priority_of ps t ≤ priority_of ps u).
              let also = to_leaders u between.0 (h, λ v l member. omega (arith, led.1 v l member)) in
              absurd (never (leaders ps s) u also (n.skips u between)))
              (cases_lt (priority_of ps u) (priority_of ps t));
        }

  pub share_exactly : s < 2 ^ 16 → (c : TaskNo) → Exactly (StaysOrNearestOfHighest ps s c) (share ps s c)
  share_exactly small c =
      let from : counted c < 16 = omega arith in
      exactly_one_or_empty s (NearestOfHighest ps s (counted c)) (λ t f. f.ready)
      (λ t u p q.
      let lt : t < 16 = member_small s 16 t small p.ready in
      let lu : u < 16 = member_small s 16 u small q.ready in
      nearest_same (leaders ps s) (counted c) t u from leaders_small (to_nearest (counted c) t lt p from)
      (to_nearest (counted c) u lu q from))
      (share ps s c) (share_answers small c)
      (λ t e. from_nearest (counted c) t.0 (stay_nearest (leaders ps s) c t e) from)
