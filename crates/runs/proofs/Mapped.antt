-- What `map_err` says of the result that it was called on.
use Rattle.std.proofs.Common.{◌≡◌, Ok, Err, Result, sym, refl, ◌∙◌, subst}
use Rattle.std.specs.Result.{IsErrAnd, MatchResult}
use Rattle.std.proofs.lemmas.Result.{err_from_is_err_and}

module _ {A D E : Type 0} (after : Result A D) (Made : E → D → Type 0) where
  pub from_ok : (before : Result A E) (a : A) → MatchResult before (λ a. after ≡ Ok a) (λ e. IsErrAnd after (Made e)) → after ≡ Ok a → before ≡ Ok a
  from_ok (Ok b) a h is = let both : Ok b ≡ Ok a = sym h ∙ is in cc
  from_ok (Err e) a h is =
      let q = err_from_is_err_and after h in
      let both : Err q.0 ≡ Ok a = sym q.1 ∙ is in cc

  pub from_err : (before : Result A E) (d : D) → MatchResult before (λ a. after ≡ Ok a) (λ e. IsErrAnd after (Made e)) → after ≡ Err d → (e : E) × (before ≡ Err e) × Made e d
  from_err (Ok a) d h is = let both : Ok a ≡ Err d = sym h ∙ is in absurd (cc)
  from_err (Err e) d h is =
      let q = err_from_is_err_and after h in
      let same : q.0 ≡ d = let both : Err q.0 ≡ Err d = sym q.1 ∙ is in cc in
      (e, refl, subst (Made e) same q.2)
