-- The policy `stay`: its function is its relation, and it keeps what a policy owes.
use Rattle.std.specs.Prelude.{◌≡◌, ℕ, zero, suc, ◌+◌, ◌%◌, ◌^◌, ◌<◌, ◌≤◌, true, false, Some, None, Option, ◌≢◌, refl}
use Rattle.std.proofs.Common.{sym, ap, ◌∙◌, subst, ⊎_elim, arith}
use Rattle.std.proofs.lemmas.Bool.{cases_Bool, cases_lt, cond-true, cond-false, true≢false}
use Rattle.numbers.specs.declared.number.TaskNo.{TaskNo}
use Rattle.numbers.specs.Sets.{has}
use Rattle.policy.specs.Policies.{NoneExactlyWhenEmpty, OnlyFrom, Exactly, counted, up, Nearest, OneOrEmpty, StaysOrNearest, first_from, stay}
use Rattle.numbers.proofs.Members.{no_member_empty, none_in_empty, member_small}

-- none, and the set is empty; or a task of the set
abbrev pub Answered : ℕ → Option TaskNo → Type 0
Answered s = OneOrEmpty s (λ t. has s t ≡ true)

pub never : (s n : ℕ) → has s n ≡ true → has s n ≢ false
never s n h k = true≢false (sym h ∙ k)

pub answered_empty : (s : ℕ) (o : Option TaskNo) → Answered s o → NoneExactlyWhenEmpty s o
answered_empty s None a = (λ _. a, λ _. refl)
answered_empty s (Some t) a = (
  λ e. let z : ◌≡◌ {A = ℕ} 0 1 = cc in absurd (omega arith),
  λ e. absurd (never 0 t.0 (subst (λ v. has v t.0 ≡ true) e a) (none_in_empty t.0)),
)

pub answered_member : (s : ℕ) (o : Option TaskNo) → Answered s o → OnlyFrom s o
answered_member s None a t e = let z : ◌≡◌ {A = ℕ} 0 1 = cc in absurd (omega arith)
answered_member s (Some u) a t e = let same : u ≡ t = cc in subst (λ (v : TaskNo). has s v.0 ≡ true) same a

-- a relation that says of each task what makes it the answer, and of none that the set is empty,
-- holds of exactly one answer
module _ (s : ℕ) (Fits : Option TaskNo → Type 0) (One : TaskNo → Type 0)
    (of_none : Fits None → s ≡ 0) (of_some : (t : TaskNo) → Fits (Some t) → One t)
    (to_none : s ≡ 0 → Fits None) (to_some : (t : TaskNo) → One t → Fits (Some t))
    (ready : (t : TaskNo) → One t → has s t.0 ≡ true) (same : (t u : TaskNo) → One t → One u → t ≡ u) where
  fits : (o : Option TaskNo) → Answered s o → ((t : TaskNo) → o ≡ Some t → One t) → Fits o
  fits None a f = to_none a
  fits (Some t) a f = to_some t (f t refl)

  none_and_one : (t : TaskNo) → s ≡ 0 → One t → ⊥
  none_and_one t e h = never 0 t.0 (subst (λ v. has v t.0 ≡ true) e (ready t h)) (none_in_empty t.0)

  only : (o other : Option TaskNo) → Fits o → Fits other → other ≡ o
  only None None f g = refl
  only (Some t) (Some u) f g = ap Some (same u t (of_some u g) (of_some t f))
  only None (Some u) f g = absurd (none_and_one u (of_none f) (of_some u g))
  only (Some t) None f g = absurd (none_and_one t (of_none g) (of_some t f))

  pub exactly_one : (o : Option TaskNo) → Answered s o → ((t : TaskNo) → o ≡ Some t → One t) → Exactly Fits o
  exactly_one o a f = let h = fits o a f in (h, λ other g. only o other h g)

pub task_same : (t u : TaskNo) → t.0 ≡ u.0 → t ≡ u
task_same t u e = ap (λ n. record { 0 = n }) e

-- the same where the relation is made of what is said of one task
pub exactly_one_or_empty : (s : ℕ) (One : ℕ → Type 0) → ((t : ℕ) → One t → has s t ≡ true) → ((t u : ℕ) → One t → One u → t ≡ u) → (o : Option TaskNo) → Answered s o → ((t : TaskNo) → o ≡ Some t → One t.0) → Exactly (OneOrEmpty s One) o
exactly_one_or_empty s One ready same =
    exactly_one s (OneOrEmpty s One) (λ t. One t.0) (λ e. e) (λ t f. f) (λ e. e) (λ t f. f)
    (λ t. ready t.0) (λ t u f g. task_same t u (same t.0 u.0 f g))

pub first_here : (n s at : ℕ) → has s at ≡ true → first_from (suc n) s at ≡ Some (record { 0 = at })
unfolding first_from
first_here n s at h = cond-true _ _ _ h

pub first_next : (n s at : ℕ) → has s at ≡ false → first_from (suc n) s at ≡ first_from n s ((at + 1) % 16)
unfolding first_from
first_next n s at h = cond-false _ _ _ h

pub first_end : (s at : ℕ) → first_from 0 s at ≡ None
unfolding first_from
first_end s at = refl

none_is_no_task : {t : TaskNo} → None ≢ Some t
none_is_no_task {t} e = let z : ◌≡◌ {A = ℕ} 0 1 = cc in omega arith

abbrev Found : ℕ → TaskNo → Type 0
Found s t = (has s t.0 ≡ true) × (t.0 < 16)

first_found : (n s at : ℕ) (t : TaskNo) → at < 16 → first_from n s at ≡ Some t → Found s t
unfolding first_from
first_found zero s at t small e = absurd (none_is_no_task e)
first_found (suc n) s at t small e =
    ⊎_elim
    (λ (h : has s at ≡ true).
    let here : t ≡ record { 0 = at } = cc (first_here n s at h) in
    let num : t.0 ≡ at = ap (λ (x : TaskNo). x.0) here in
    (rw num h, rw num small))
    (λ (h : has s at ≡ false). first_found n s ((at + 1) % 16) t (omega arith) (sym (first_next n s at h) ∙ e))
    (cases_Bool (has s at))

first_none : (n s at : ℕ) → at < 16 → first_from n s at ≡ None → (j : ℕ) → j < n → has s ((at + j) % 16) ≡ false
unfolding first_from
first_none zero s at small e j l = absurd (omega arith)
first_none (suc n) s at small e j l =
    ⊎_elim
    (λ (h : has s at ≡ true). absurd (none_is_no_task (sym e ∙ first_here n s at h)))
    (λ (h : has s at ≡ false).
    elim j as (λ k. k < suc n → has s ((at + k) % 16) ≡ false) [
      | zero ↦ λ _. (let same : (at + 0) % 16 ≡ at = omega arith in rw same h)
      | suc k ↦ λ less. (
          let rest = first_none n s ((at + 1) % 16) (omega arith) (sym (first_next n s at h) ∙ e) k (omega arith) in
          let same : (at + suc k) % 16 ≡ ((at + 1) % 16 + k) % 16 = omega arith in
          rw same rest)
    ] l)
    (cases_Bool (has s at))

first_passed :
    (n s at : ℕ) (t : TaskNo) → at < 16 → first_from n s at ≡ Some t → (j : ℕ) → j < up at t.0 →
    has s ((at + j) % 16) ≡ false
unfolding first_from
first_passed zero s at t small e j l = absurd (none_is_no_task e)
first_passed (suc n) s at t small e j l =
    let low : t.0 < 16 = (first_found (suc n) s at t small e).1 in
    ⊎_elim
    (λ (h : has s at ≡ true).
    let here : t ≡ record { 0 = at } = cc (first_here n s at h) in
    let num : t.0 ≡ at = ap (λ (x : TaskNo). x.0) here in
    absurd (omega arith))
    (λ (h : has s at ≡ false).
    elim j as (λ k. k < up at t.0 → has s ((at + k) % 16) ≡ false) [
      | zero ↦ λ _. (let same : (at + 0) % 16 ≡ at = omega arith in rw same h)
      | suc k ↦ λ less. (
          let rest = first_passed n s ((at + 1) % 16) t (omega arith) (sym (first_next n s at h) ∙ e) k (omega arith) in
          let same : (at + suc k) % 16 ≡ ((at + 1) % 16 + k) % 16 = omega arith in
          rw same rest)
    ] l)
    (cases_Bool (has s at))

answered : (s : ℕ) (o : Option TaskNo) → (o ≡ None → s ≡ 0) → ((t : TaskNo) → o ≡ Some t → has s t.0 ≡ true) → Answered s o
answered s None f g = f refl
answered s (Some t) f g = g t refl

pub stay_answers : (s : ℕ) (c : TaskNo) → s < 2 ^ 16 → Answered s (stay s c)
unfolding stay
stay_answers s c small =
    answered s _
    (λ e. no_member_empty s 16 small (λ i l.
    let from : counted c < 16 = omega arith in
    let few : up (counted c) i < 16 = omega arith in
    let there : (counted c + up (counted c) i) % 16 ≡ i = omega arith in
    subst (λ n. has s n ≡ false) there (first_none 16 s (counted c) from e (up (counted c) i) few)))
    (λ t e. (first_found 16 s (counted c) t (omega arith) e).0)

pub stay_settles : (s : ℕ) (c t : TaskNo) → stay s c ≡ Some t → stay s t ≡ Some t
unfolding stay
stay_settles s c t e =
    let found : Found s t = first_found 16 s (counted c) t (omega arith) e in
    let num : counted t ≡ t.0 = omega arith in
    rw num (first_here 15 s t.0 found.0)

pub stay_nearest : (s : ℕ) (c t : TaskNo) → stay s c ≡ Some t → Nearest s (counted c) t.0
unfolding stay
stay_nearest s c t e =
    let from : counted c < 16 = omega arith in
    record {
      ready = (first_found 16 s (counted c) t from e).0;
      stays = λ h. let here : t ≡ record { 0 = counted c } = cc (first_here 15 s (counted c) h) in ap (λ (x : TaskNo). x.0) here;
      skips = λ u between.
          let there : (counted c + up (counted c) u) % 16 ≡ u = omega (arith, between.0) in
          subst (λ n. has s n ≡ false) there (first_passed 16 s (counted c) t from e (up (counted c) u) between.2);
    }

-- of two nearest tasks neither is nearer
module _ (s c t u : ℕ) (from : c < 16) (small : s < 2 ^ 16) where
  not_nearer : Nearest s c t → Nearest s c u → up c t < up c u → ⊥
  not_nearer p q less =
      let low : t < 16 = member_small s 16 t small p.ready in
      let high : u < 16 = member_small s 16 u small q.ready in
      ⊎_elim
      (λ (apart : 0 < up c t). never s t p.ready (q.skips t (low, apart, less)))
      (λ (here : up c t ≤ 0).
      let at : t ≡ c = omega arith in
      let same : u ≡ c = q.stays (subst (λ n. has s n ≡ true) at p.ready) in
      omega arith)
      (cases_lt 0 (up c t))

pub nearest_same : (s c t u : ℕ) → c < 16 → s < 2 ^ 16 → Nearest s c t → Nearest s c u → t ≡ u
nearest_same s c t u from small p q =
    let low : t < 16 = member_small s 16 t small p.ready in
    let high : u < 16 = member_small s 16 u small q.ready in
    ⊎_elim
    (λ (less : up c t < up c u). absurd (not_nearer s c t u from small p q less))
    (λ (le : up c u ≤ up c t).
    ⊎_elim
    (λ (less : up c u < up c t). absurd (not_nearer s c u t from small q p less))
    (λ (ge : up c t ≤ up c u). omega arith)
    (cases_lt (up c u) (up c t)))
    (cases_lt (up c t) (up c u))

pub stay_exactly : (s : ℕ) (c : TaskNo) → s < 2 ^ 16 → Exactly (StaysOrNearest s c) (stay s c)
stay_exactly s c small =
    exactly_one_or_empty s (Nearest s (counted c)) (λ t n. n.ready)
    (λ t u n m. nearest_same s (counted c) t u (omega arith) small n m)
    (stay s c) (stay_answers s c small) (stay_nearest s c)
