-- The highest member of a set is what a policy may choose.
use Rattle.std.specs.Prelude.{◌≡◌, ℕ, zero, suc, ◌+◌, ◌^◌, ◌<◌, ◌≤◌, true, false, Some, None}
use Rattle.std.proofs.Math.Path.{refl, ap, subst}
use Rattle.std.proofs.Common.{sym, ◌∙◌}
use Rattle.std.proofs.Math.Logic.{⊎_elim}
use Rattle.std.proofs.Math.Numerals.{add-one}
use native.Mathlib.Omega.{arith}
use Rattle.std.proofs.lemmas.Bool.{cases_Bool, cases_lt, cond-true, cond-false}
use Rattle.numbers.specs.declared.number.TaskNo.{TaskNo}
use Rattle.numbers.specs.Sets.{has}
use Rattle.numbers.proofs.Members.{no_member_empty, none_in_empty}
use Rattle.outside.specs.Highest.{highest}

module _ (s : ℕ) where
  -- no member below n
  pub highest_none : (n : ℕ) → ((i : ℕ) → i < n → has s i ≡ false) → highest n s ≡ None
  unfolding highest
  highest_none zero none = refl
  highest_none (suc n) none = cond-false _ _ _ (none n (omega arith)) ∙ highest_none n (λ i l. none i (omega arith))

  -- a member below n, and none between
  pub highest_some : (n : ℕ) (t : TaskNo) → t.0 < n → has s t.0 ≡ true → ((i : ℕ) → t.0 < i → i < n → has s i ≡ false) → highest n s ≡ Some t
  unfolding highest
  highest_some zero t l h none = absurd (omega arith)
  highest_some (suc n) t l h none =
      ⊎_elim
      (λ (below : t.0 < n). cond-false _ _ _ (none n below (omega arith)) ∙ highest_some n t below h (λ i a b. none i a (omega arith)))
      (λ (le : n ≤ t.0).
      let same : t.0 ≡ n = omega arith in
      cond-true _ _ _ (sym (ap (has s) same) ∙ h) ∙ ap (λ (m : ℕ). let u : TaskNo = record { 0 = m } in Some u) (sym same))
      (cases_lt t.0 n)

  -- from a number to the next
  pub highest_yes : (n : ℕ) → has s n ≡ true → highest (n + 1) s ≡ Some (record { 0 = n })
  unfolding highest
  highest_yes n h = rw add-one (cond-true _ _ _ h)

  pub highest_no : (n : ℕ) → has s n ≡ false → highest (n + 1) s ≡ highest n s
  unfolding highest
  highest_no n h = rw add-one (cond-false _ _ _ h)

  none_below : (n : ℕ) → highest n s ≡ None → (i : ℕ) → i < n → has s i ≡ false
  unfolding highest
  none_below zero e i l = absurd (omega arith)
  none_below (suc n) e i l =
      ⊎_elim
      (λ (h : has s n ≡ true).
      let some = cond-true _ (Some (record { 0 = n })) (highest n s) h in
      let z : ◌≡◌ {A = ℕ} 0 1 = cc in absurd (omega arith))
      (λ (h : has s n ≡ false).
      ⊎_elim
      (λ (below : i < n). none_below n (sym (cond-false _ _ _ h) ∙ e) i below)
      (λ (le : n ≤ i). let same : i ≡ n = omega arith in ap (has s) same ∙ h)
      (cases_lt i n))
      (cases_Bool (has s n))

  pub highest_member : (n : ℕ) (t : TaskNo) → highest n s ≡ Some t → has s t.0 ≡ true
  unfolding highest
  highest_member zero t e = let z : ◌≡◌ {A = ℕ} 0 1 = cc in absurd (omega arith)
  highest_member (suc n) t e =
      ⊎_elim
      (λ (h : has s n ≡ true).
      let some = cond-true _ (Some (record { 0 = n })) (highest n s) h in
      let same : t ≡ record { 0 = n } = cc in
      subst (λ (u : TaskNo). has s u.0 ≡ true) (sym same) h)
      (λ (h : has s n ≡ false). highest_member n t (sym (cond-false _ _ _ h) ∙ e))
      (cases_Bool (has s n))

  pub none_empty : s < 2 ^ 16 → highest 16 s ≡ None → s ≡ 0
  none_empty small e = no_member_empty s 16 small (none_below 16 e)

pub empty_none : (n : ℕ) → highest n 0 ≡ None
unfolding highest
empty_none zero = refl
empty_none (suc n) = cond-false _ _ _ (none_in_empty n) ∙ empty_none n
