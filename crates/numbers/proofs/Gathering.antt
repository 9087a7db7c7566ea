-- The set of those numbers that pass a test.
use Rattle.std.proofs.Common.{◌≡◌, ℕ, zero, suc, ◌+◌, ◌^◌, ◌<◌, Bool, true, false, refl, sym, ◌∙◌, inl, inr, ⊎_elim, add-one, arith}
use borrow.Author.Count.{below_more}
use lib.Bits.{bit_or}
use Rattle.std.proofs.lemmas.Nat.{or_lt, pow_below}
use Rattle.std.proofs.lemmas.Bool.{cases_Bool, cond-true, cond-false}
use Rattle.std.proofs.Math.Bool.{or-false, or-true}
use Rattle.numbers.specs.Sets.{has, gathered}
use Rattle.numbers.proofs.Members.{none_from, has_either, has_single, has_single_below}

module _ (p : ℕ → Bool) where
  gathered_yes : (n : ℕ) → p n ≡ true → gathered (suc n) p ≡ bit_or (gathered n p) (2 ^ n)
  unfolding gathered
  gathered_yes n h = cond-true _ _ _ h

  gathered_no : (n : ℕ) → p n ≡ false → gathered (suc n) p ≡ gathered n p
  unfolding gathered
  gathered_no n h = cond-false _ _ _ h

  -- a loop's steps
  pub gathered_none : gathered 0 p ≡ 0
  unfolding gathered
  gathered_none = refl

  pub gathered_more_yes : (n : ℕ) → true ≡ p n → gathered (n + 1) p ≡ bit_or (gathered n p) (2 ^ n)
  gathered_more_yes n h = rw add-one (gathered_yes n (sym h))

  pub gathered_more_no : (n : ℕ) → false ≡ p n → gathered (n + 1) p ≡ gathered n p
  gathered_more_no n h = rw add-one (gathered_no n (sym h))

  pub gathered_small : (n : ℕ) → gathered n p < 2 ^ n
  unfolding gathered
  gathered_small zero = omega arith
  gathered_small (suc n) =
      let before = gathered_small n in
      let more : 2 ^ n < 2 ^ suc n = pow_below n (suc n) (omega arith) in
      ⊎_elim
      (λ (h : p n ≡ true). rw (gathered_yes n h) (or_lt (suc n) (gathered n p) (2 ^ n) (omega arith) more))
      (λ (h : p n ≡ false). rw (gathered_no n h) (omega arith))
      (cases_Bool (p n))

  pub has_gathered : (n i : ℕ) → i < n → has (gathered n p) i ≡ p i
  has_gathered zero i l = absurd (omega arith)
  has_gathered (suc n) i l = elim (cases_Bool (p n)) [
    | inl in_it ↦
        let found = gathered_yes n in_it in
        below_more (λ i. has (gathered (suc n) p) i ≡ p i) n
        (λ i below. rw (found, has_either, has_single_below) (or-false _ ∙ has_gathered n i below))
        (rw (found, has_either, has_single) (or-true _ ∙ sym in_it))
        i (omega arith)
    | inr out ↦
        let found = gathered_no n out in
        below_more (λ i. has (gathered (suc n) p) i ≡ p i) n (λ i below. rw found (has_gathered n i below))
        (rw found (none_from (gathered n p) n n (gathered_small n) (omega arith) ∙ sym out))
        i (omega arith)
  ]
