-- The members of a set of bits.
use Rattle.std.proofs.Common.{◌≡◌, ℕ, zero, suc, ◌+◌, ◌-◌, ◌*◌, ◌/◌, ◌%◌, ◌^◌, ◌<◌, ◌≤◌, min, max, cond, Bool, true, false, not, ◌&&◌, ◌||◌, eqb, ltb, ◌⊎◌, sym, ap, ◌∙◌, inl, inr, ⊎_elim, arith, pow_pos}
use native.Mathlib.Nat.{div-eq_of_lt, pow-le-pow_right}
use borrow.Author.Count.{below_more}
use lib.Bits.{bit_and, bit_or, bit_xor, and_self, xor_lt, xor_self, xor_zero_r, or_zero_r}
use Rattle.std.proofs.lemmas.Nat.{and-not, and_assoc, and_comm, and_le_l, le-div, shr-shr, shr_le}
use Rattle.std.proofs.lemmas.Bool.{eqb-false, eqb-true, eq-eqb, ne_eqb, cond-true, cond-false, lt-ltb, ltb-true, le-ltb, cases_lt, cases_Bool, true≢false}
use Rattle.std.specs.Int.Bits.{xor_add_and}
use Rattle.std.proofs.Math.Bool.{and-false}
use Rattle.std.proofs.lemmas.Bool.Decides.{nat_tests}
use Rattle.std.specs.Int.{bit_at}
use Rattle.std.proofs.lemmas.Nat.Bits.{bit_at-zero, bit_at_above, same_from_bits_below, bit_at-lt, bit_at_and, bit_at_or, bit_at_xor, and_pow, bit_at-pow_same, bit_at-pow_other}
use Rattle.numbers.specs.Sets.{has, AllBelow, minus, with_member}

-- a set below 2 ^ n has no member from n on
pub none_from : (s n i : ℕ) → s < 2 ^ n → n ≤ i → has s i ≡ false
unfolding has
none_from s n i small l = ap (λ m. eqb m 1) (bit_at_above s n i small l)

pub member_small : (s n i : ℕ) → s < 2 ^ n → has s i ≡ true → i < n
member_small s n i small h =
    ⊎_elim (λ l. l)
    (λ (le : n ≤ i). let z : true ≡ false = sym h ∙ none_from s n i small le in absurd (true≢false z))
    (cases_lt i n)

pub none_in_empty : (i : ℕ) → has 0 i ≡ false
none_in_empty i = none_from 0 0 i (omega arith) (omega arith)

pub no_member_empty : (s n : ℕ) → s < 2 ^ n → ((i : ℕ) → i < n → has s i ≡ false) → s ≡ 0
unfolding has
no_member_empty s n small h =
    same_from_bits_below n s 0 small (pow_pos n)
    (λ i l. omega (arith, eqb-false (bit_at s i) 1 (h i l), bit_at-lt s i, bit_at-zero i))

-- a member below n, or none
pub member_or_none : (s n : ℕ) → ((i : ℕ) → i < n → has s i ≡ false) ⊎ ((i : ℕ) × (has s i ≡ true))
member_or_none s zero = inl (λ i l. absurd (omega arith))
member_or_none s (suc n) = elim (cases_Bool (has s n)) [
  | inl here ↦ inr (n, here)
  | inr here ↦ elim (member_or_none s n) [
    | inl none ↦ inl (λ i l. below_more (λ i. has s i ≡ false) n none here i (omega arith))
    | inr found ↦ inr found
  ]
]

pub has_both : (a b i : ℕ) → has (bit_and a b) i ≡ (has a i && has b i)
unfolding has
has_both a b i = ap (λ n. eqb n 1) (bit_at_and a b i) ∙ least (bit_at a i) (bit_at b i) (bit_at-lt a i) (bit_at-lt b i)
  where
    least : (x y : ℕ) → x < 2 → y < 2 → eqb (min x y) 1 ≡ (eqb x 1 && eqb y 1)
    least x y l m = grind (arith, nat_tests)

pub has_either : (a b i : ℕ) → has (bit_or a b) i ≡ (has a i || has b i)
unfolding has
has_either a b i = ap (λ n. eqb n 1) (bit_at_or a b i) ∙ most (bit_at a i) (bit_at b i) (bit_at-lt a i) (bit_at-lt b i)
  where
    most : (x y : ℕ) → x < 2 → y < 2 → eqb (max x y) 1 ≡ (eqb x 1 || eqb y 1)
    most x y l m = grind (arith, nat_tests)

pub has_single : (n : ℕ) → has (2 ^ n) n ≡ true
unfolding has
has_single n = ap (λ m. eqb m 1) (bit_at-pow_same n)

pub has_single_below : (n i : ℕ) → i < n → has (2 ^ n) i ≡ false
unfolding has
has_single_below n i l = ap (λ m. eqb m 1) (bit_at-pow_other n i (λ e. omega arith))

-- nothing from bit k on, exactly if the number is below 2 ^ k
pub within_shift : (s k : ℕ) → eqb (s / 2 ^ k) 0 ≡ ltb s (2 ^ k)
within_shift s k =
    let some : 0 < 2 ^ k = pow_pos k in
    ⊎_elim
    (λ (low : s < 2 ^ k). eq-eqb (s / 2 ^ k) 0 (div-eq_of_lt low) ∙ sym (lt-ltb s (2 ^ k) low))
    (λ (high : 2 ^ k ≤ s).
    let one : 1 ≤ s / 2 ^ k = le-div 1 s (2 ^ k) some (omega arith) in
    ne_eqb (s / 2 ^ k) 0 (λ e. omega arith) ∙ sym (le-ltb s (2 ^ k) high))
    (cases_lt s (2 ^ k))

-- a number of two bytes has nothing from bit 16 on
pub within_all : (s k : ℕ) → s < 2 ^ 16 → 16 ≤ k → true ≡ ltb s (2 ^ k)
within_all s k small high =
    let two : 0 < 2 = omega arith in
    let wide : 2 ^ 16 ≤ 2 ^ k = pow-le-pow_right two high in
    sym (lt-ltb s (2 ^ k) (omega arith))

has_shifted : (s k i : ℕ) → has (s / 2 ^ k) i ≡ has s (k + i)
unfolding has
has_shifted s k i = ap (λ m. eqb (m % 2) 1) (shr-shr s k i)

-- a set below 2 ^ 16 with members below k only is below 2 ^ k
pub below_all : (s k : ℕ) → s < 2 ^ 16 → AllBelow k s → s < 2 ^ k
below_all s k small below =
    let low : s / 2 ^ k < 2 ^ 16 = omega (arith, shr_le s k) in
    let none : s / 2 ^ k ≡ 0 =
    no_member_empty (s / 2 ^ k) 16 low (λ i _.
    ⊎_elim
    (λ (h : has (s / 2 ^ k) i ≡ true). absurd (omega (arith, below (k + i) (sym (has_shifted s k i) ∙ h))))
    (λ (h : has (s / 2 ^ k) i ≡ false). h)
    (cases_Bool (has (s / 2 ^ k) i))) in
    ltb-true s (2 ^ k) (sym (within_shift s k) ∙ eq-eqb (s / 2 ^ k) 0 none)

pub record Within (s k : ℕ) (r : Bool) : Type 0 where
  pub is : r ≡ ltb s (2 ^ k)
  pub yes : r ≡ true → AllBelow k s
  pub no : r ≡ false → AllBelow k s → ⊥

-- what the test says of the members
pub within_members : (s k : ℕ) (r : Bool) → s < 2 ^ 16 → r ≡ ltb s (2 ^ k) → Within s k r
within_members s k r small is =
    record {
      is = is;
      yes = λ h n m. member_small s k n (ltb-true s (2 ^ k) (sym is ∙ h)) m;
      no = λ h below. true≢false (sym (lt-ltb s (2 ^ k) (below_all s k small below)) ∙ (sym is ∙ h));
    }

-- one number alone
pub has_power : (n i : ℕ) → has (2 ^ n) i ≡ eqb i n
unfolding has
has_power n i =
    ⊎_elim
    (λ (e : eqb i n ≡ true). let same = eqb-true i n e in ap (has (2 ^ n)) same ∙ (has_single n ∙ sym e))
    (λ (e : eqb i n ≡ false). ap (λ m. eqb m 1) (bit_at-pow_other n i (eqb-false i n e)) ∙ sym e)
    (cases_Bool (eqb i n))

pub has_with_member : (s n i : ℕ) → n < 16 → has (with_member s n) i ≡ (has s i || eqb i n)
has_with_member s n i low =
    ap (λ v. has v i) (cond-true _ (bit_or s (2 ^ n)) s (lt-ltb n 16 low))
    ∙ (has_either s (2 ^ n) i ∙ ap (λ b. has s i || b) (has_power n i))

pub has_minus : (a b i : ℕ) → has (minus a b) i ≡ (has a i && not (has b i))
unfolding has
has_minus a b i =
    ap (λ n. eqb n 1) (bit_at_xor a (bit_and a b) i ∙ ap (λ n. (bit_at a i + n) % 2) (bit_at_and a b i))
    ∙ less (bit_at a i) (bit_at b i) (bit_at-lt a i) (bit_at-lt b i)
  where
    less : (x y : ℕ) → x < 2 → y < 2 → eqb ((x + min x y) % 2) 1 ≡ (eqb x 1 && not (eqb y 1))
    less x y l m = grind (arith, nat_tests)

-- `a & !b`, where b is a number of two bytes too
pub and_not : (a b : ℕ) → a < 2 ^ 16 → b < 2 ^ 16 → bit_and a (2 ^ 16 - 1 - b) ≡ minus a b
and_not a b small other =
    let kept : bit_and a (bit_and a b) ≡ bit_and a b = sym (and_assoc b a a) ∙ ap (λ n. bit_and n b) (and_self a) in
    let turned : bit_and a (2 ^ 16 - 1 - b) ≡ bit_and (2 ^ 16 - 1 - b) a = and_comm _ _ in
    omega (arith, kept, turned, and-not 16 b a other small, and_comm b a, xor_add_and a (bit_and a b))

pub minus_self : (a : ℕ) → minus a a ≡ 0
minus_self a = ap (bit_xor a) (and_self a) ∙ xor_self a

pub minus_small : (n a b : ℕ) → a < 2 ^ n → minus a b < 2 ^ n
minus_small n a b small = xor_lt n a (bit_and a b) small (omega (arith, and_le_l a b))

-- no set has a member above 15 to lose
pub minus_beyond : (s n : ℕ) → s < 2 ^ 16 → 16 ≤ n → minus s (2 ^ n) ≡ s
minus_beyond s n small high =
    let none : bit_and s (2 ^ n) ≡ 0 =
    no_member_empty (bit_and s (2 ^ n)) 16 (omega (arith, and_le_l s (2 ^ n))) (λ i l.
    has_both s (2 ^ n) i ∙ ap (λ v. has s i && v) (has_power n i ∙ ne_eqb i n (λ e. omega arith)) ∙ and-false (has s i)) in
    ap (bit_xor s) none ∙ xor_zero_r s

-- the bit of a member, which is 0 for a number above 15
abbrev pub bit : ℕ → ℕ
bit n = cond (ltb n 16) (2 ^ n) 0

low_bit : (n : ℕ) → n < 16 → bit n ≡ 2 ^ n
low_bit n low = cond-true _ _ _ (lt-ltb n 16 low)

no_bit : (n : ℕ) → 16 ≤ n → bit n ≡ 0
no_bit n high = cond-false _ _ _ (le-ltb n 16 high)

and_none : (s : ℕ) → bit_and s 0 ≡ 0
and_none s = omega (arith, and_comm s 0, and_le_l 0 s)

pub has_by_bit : (s n : ℕ) → s < 2 ^ 16 → not (eqb (bit_and s (bit n)) 0) ≡ has s n
unfolding has
has_by_bit s n small = elim (cases_lt n 16) [
  | inl low ↦
      ap (λ b. not (eqb (bit_and s b) 0)) (low_bit n low)
      ∙ (ap (λ v. not (eqb v 0)) (and_pow s n) ∙ some (bit_at s n) (2 ^ n) (bit_at-lt s n) (pow_pos n))
  | inr high ↦ ap (λ b. not (eqb (bit_and s b) 0)) (no_bit n high) ∙ (ap (λ v. not (eqb v 0)) (and_none s) ∙ sym (none_from s 16 n small high))
]
  where
    some : (x y : ℕ) → x < 2 → 0 < y → not (eqb (x * y) 0) ≡ eqb x 1
    some zero y l p = let none : zero * y ≡ 0 = omega arith in ap (λ v. not (eqb v 0)) none
    some (suc zero) y l p = let same : suc zero * y ≡ y = omega arith in ap (λ v. not (eqb v 0)) same ∙ ap not (ne_eqb y 0 (λ e. omega arith))
    some (suc (suc x)) y l p = absurd (omega arith)

pub with_bit : (s n : ℕ) → bit_or s (bit n) ≡ with_member s n
with_bit s n = elim (cases_lt n 16) [
  | inl low ↦ ap (bit_or s) (low_bit n low) ∙ sym (cond-true _ _ _ (lt-ltb n 16 low))
  | inr high ↦ ap (bit_or s) (no_bit n high) ∙ (or_zero_r s ∙ sym (cond-false _ _ _ (le-ltb n 16 high)))
]

pub minus_bit : (s n : ℕ) → s < 2 ^ 16 → minus s (bit n) ≡ minus s (2 ^ n)
minus_bit s n small = elim (cases_lt n 16) [
  | inl low ↦ ap (minus s) (low_bit n low)
  | inr high ↦ ap (minus s) (no_bit n high) ∙ (ap (bit_xor s) (and_none s) ∙ (xor_zero_r s ∙ sym (minus_beyond s n small high)))
]
