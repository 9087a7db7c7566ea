-- Lists of tests: what the first finding is.
use Rattle.std.proofs.Common.{◌≡◌, ℕ, zero, suc, ◌<◌, Bool, true, false, List, [], ◌∷◌, ◌++◌, get_or, Some, None, Ok, Err, Option, sym, refl, ap, ◌∙◌, arith}
use Rattle.board.specs.Refusing.{needs, or_else, first, unless, checked, ComesFirst}

module _ {E : Type 0} where
  or_else_assoc : (a b c : Option E) → or_else (or_else a b) c ≡ or_else a (or_else b c)
  or_else_assoc (Some e) b c = refl
  or_else_assoc None b c = refl

  pub first_append : (xs ys : List (Option E)) → first (xs ++ ys) ≡ or_else (first xs) (first ys)
  first_append [] ys = refl
  first_append (x ∷ xs) ys = ap (or_else x) (first_append xs ys) ∙ sym (or_else_assoc x (first xs) (first ys))

  none_is_no_finding : {e : E} → None ≡ Some e → ⊥
  none_is_no_finding {e} h = let z : ◌≡◌ {A = ℕ} 0 1 = cc in omega arith

  pub first_comes_first : (tests : List (Option E)) (e : E) → first tests ≡ Some e → ComesFirst tests e
  first_comes_first [] e h = absurd (none_is_no_finding h)
  first_comes_first (Some x ∷ tests) e h = record { place = 0; found = h; before = λ k l. absurd (omega arith) }
  first_comes_first (None ∷ tests) e h =
      let later = first_comes_first tests e h in
      record { place = suc later.place; found = later.found; before = earlier_none later }
    where
      earlier_none : (c : ComesFirst tests e) → (k : ℕ) → k < suc c.place → get_or (None ∷ tests) k None ≡ None
      earlier_none c zero l = refl
      earlier_none c (suc k) l = c.before k (omega arith)

  -- what an answer says of what was found
  module _ {A : Type 0} (a : A) where
    pub found_nothing : {b : A} (found : Option E) → Ok b ≡ unless found a → found ≡ None
    found_nothing None h = refl
    found_nothing {b} (Some e) h = let z : ◌≡◌ {A = ℕ} 0 1 = cc in absurd (omega arith)

    pub answered : {b : A} (found : Option E) → Ok b ≡ unless found a → b ≡ a
    answered None h = cc
    answered {b} (Some e) h = let z : ◌≡◌ {A = ℕ} 0 1 = cc in absurd (omega arith)

    pub found_this : {e : E} (found : Option E) → Err e ≡ unless found a → found ≡ Some e
    found_this {e} None h = let z : ◌≡◌ {A = ℕ} 0 1 = cc in absurd (omega arith)
    found_this {e} (Some x) h = cc

  module _ (tests : List (Option E)) where
    pub all_passed : {u : Unit {0}} → Ok u ≡ checked tests → first tests ≡ None
    all_passed h = found_nothing (tt {0}) (first tests) h

    pub first_failed : {e : E} → Err e ≡ checked tests → first tests ≡ Some e
    first_failed h = found_this (tt {0}) (first tests) h

-- what a test that needs a condition says
pub needs_met : {E : Type 0} (e : E) (b : Bool) → needs b e ≡ None → b ≡ true
needs_met e true h = refl
needs_met e false h = let z : ◌≡◌ {A = ℕ} 0 1 = cc in absurd (omega arith)
