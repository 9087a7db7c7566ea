-- A favoured group over a policy that keeps what a policy owes keeps it too.
use Rattle.std.specs.Prelude.{◌≡◌, ℕ, ◌^◌, ◌<◌, true, false, Some, Option, ◌==◌, ◌≢◌, nat_eq, refl}
use Rattle.std.proofs.Common.{sym, ◌∙◌, subst, ⊎_elim, arith}
use Rattle.std.proofs.lemmas.Bool.{cases_Bool, eqb-true, eqb-false, cond-true, cond-false, and_parts, and_from}
use Rattle.std.proofs.lemmas.Nat.{and_le_l}
use Rattle.numbers.specs.declared.number.TaskNo.{TaskNo}
use Rattle.numbers.specs.Sets.{has, both}
use Rattle.policy.specs.Policies.{NoneExactlyWhenEmpty, OnlyFrom, Exactly, Favours, favour}
use Rattle.numbers.proofs.Members.{has_both, none_in_empty, no_member_empty, member_or_none}
use Rattle.policy.specs.Staying.{never}

module _ (below : ℕ → TaskNo → Option TaskNo) (f s : ℕ) (small : s < 2 ^ 16) where
  both_small : both s f < 2 ^ 16
  both_small = omega (arith, and_le_l s f)

  favour_none : (c : TaskNo) → (both s f == 0) ≡ true → favour below f s c ≡ below s c
  favour_none c e = cond-true _ _ _ e

  favour_some : (c : TaskNo) → (both s f == 0) ≡ false → favour below f s c ≡ below (both s f) c
  favour_some c e = cond-false _ _ _ e

  -- what holds of both ways holds of the answer
  by_ways :
      (c : TaskNo) (P : Option TaskNo → Type 0) → (both s f ≡ 0 → P (below s c)) →
      ((both s f ≢ 0) → P (below (both s f) c)) → P (favour below f s c)
  by_ways c P none some =
      ⊎_elim
      (λ (e : nat_eq (both s f) 0 ≡ true). subst P (sym (favour_none c e)) (none (eqb-true (both s f) 0 e)))
      (λ (e : nat_eq (both s f) 0 ≡ false). subst P (sym (favour_some c e)) (some (eqb-false (both s f) 0 e)))
      (cases_Bool (both s f == 0))

  member_of_both : (t : ℕ) → has (both s f) t ≡ true → (has s t ≡ true) × (has f t ≡ true)
  member_of_both t h = and_parts (has s t) (has f t) (sym (has_both s f t) ∙ h)

  both_empty : ((t : ℕ) → has s t ≡ true → has f t ≢ true) → both s f ≡ 0
  both_empty none =
      no_member_empty (both s f) 16 both_small (λ t _.
      ⊎_elim
      (λ (h : has (both s f) t ≡ true). let parts = member_of_both t h in absurd (none t parts.0 parts.1))
      (λ (h : has (both s f) t ≡ false). h)
      (cases_Bool (has (both s f) t)))

  both_nonempty : (t : ℕ) → has s t ≡ true → has f t ≡ true → both s f ≢ 0
  both_nonempty t h k e =
      never 0 t (subst (λ v. has v t ≡ true) e (has_both s f t ∙ and_from _ _ h k)) (none_in_empty t)

  pub favour_empty :
      ((u : ℕ) (c : TaskNo) → u < 2 ^ 16 → NoneExactlyWhenEmpty u (below u c)) → (c : TaskNo) →
      NoneExactlyWhenEmpty s (favour below f s c)
  favour_empty owed c =
      by_ways c (NoneExactlyWhenEmpty s) (λ _. owed s c small)
      (λ some.
      let part = owed (both s f) c both_small in
      (λ e. absurd (some (part.0 e)), λ e. absurd (some (omega (arith, and_le_l s f)))))

  pub favour_member :
      ((u : ℕ) (c : TaskNo) → u < 2 ^ 16 → OnlyFrom u (below u c)) → (c : TaskNo) → OnlyFrom s (favour below f s c)
  favour_member owed c =
      by_ways c (OnlyFrom s) (λ _. owed s c small) (λ some t e. (member_of_both t.0 (owed (both s f) c both_small t e)).0)

  pub favour_settles :
      ((u : ℕ) (c t : TaskNo) → u < 2 ^ 16 → below u c ≡ Some t → below u t ≡ Some t) →
      (c t : TaskNo) → favour below f s c ≡ Some t → favour below f s t ≡ Some t
  favour_settles owed c t e =
      ⊎_elim
      (λ (b : nat_eq (both s f) 0 ≡ true). favour_none t b ∙ owed s c t small (sym (favour_none c b) ∙ e))
      (λ (b : nat_eq (both s f) 0 ≡ false). favour_some t b ∙ owed (both s f) c t both_small (sym (favour_some c b) ∙ e))
      (cases_Bool (both s f == 0))

  favours : (c : TaskNo) → Favours below f s c (favour below f s c)
  favours c =
      record {
        some_favoured = λ t h k.
            by_ways c (λ o. o ≡ below (both s f) c) (λ e. absurd (both_nonempty t h k e)) (λ _. refl);
        none_favoured = λ none. by_ways c (λ o. o ≡ below s c) (λ _. refl) (λ some. absurd (some (both_empty none)));
      }

  pub favour_exactly : (c : TaskNo) → Exactly (Favours below f s c) (favour below f s c)
  favour_exactly c = (
    favours c,
    λ other g.
        by_ways c (λ o. other ≡ o) (λ e. g.none_favoured (λ t h k. both_nonempty t h k e))
        (λ some.
        ⊎_elim
        (λ none. absurd (some (no_member_empty (both s f) 16 both_small none)))
        (λ found. let parts = member_of_both found.0 found.1 in g.some_favoured found.0 parts.0 parts.1)
        (member_or_none (both s f) 16)),
  )
