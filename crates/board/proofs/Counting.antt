-- How many different ranks some lines have, and how deep their handlers nest.
use Rattle.std.proofs.Common.{◌≡◌, ℕ, zero, suc, ◌+◌, ◌-◌, ◌<◌, ◌≤◌, Bool, true, false, cond, not, ◌||◌, eqb, List, [], ◌∷◌, ◌++◌, length, filter, sym, refl, ap, ◌∙◌, subst, ⊎_elim, add-one, zero-add, arith}
use Rattle.std.specs.Prelude.{◌==◌}
use Rattle.std.specs.List.{list_any, range_with_len}
use Rattle.std.proofs.lemmas.List.{length-append}
use Rattle.std.proofs.lemmas.List.Elements.{filter-append}
use Rattle.std.proofs.lemmas.List.Folds.{list_any-append}
use Rattle.std.proofs.lemmas.Bool.{cases_lt, cases_Bool, eqb-true, eq-eqb, ne_eqb, or_left, or_right, true≢false}
use Rattle.numbers.specs.declared.number.LineNo.{LineNo}
use Rattle.board.specs.Figure.{some_line, how_many, first_of_its_rank, different_ranks, figure_of, Nested, OneMoreThanTheDeepestNest}

abbrev line : ℕ → LineNo
line n = record { 0 = n }

module _ (rank : LineNo → ℕ) (r : ℕ) where
  pub line_here : (n i : ℕ) → i < n → rank (line i) ≡ r → some_line rank r n ≡ true
  unfolding some_line
  line_here zero i l e = absurd (omega arith)
  line_here (suc n) i l e =
      ⊎_elim
      (λ (below : i < n). or_left _ _ (line_here n i below e))
      (λ (le : n ≤ i).
      let same : i ≡ n = omega arith in
      or_right _ _ (eq-eqb _ _ (ap (λ k. rank (line k)) (sym same) ∙ e)))
      (cases_lt i n)

  -- a line of the rank
  pub which_line : (n : ℕ) → some_line rank r n ≡ true → (i : ℕ) × (i < n) × (rank (line i) ≡ r)
  unfolding some_line
  which_line zero h = absurd (true≢false (sym h))
  which_line (suc n) h =
      ⊎_elim
      (λ (here : eqb (rank (line n)) r ≡ true). (n, omega arith, eqb-true (rank (line n)) r here))
      (λ (other : eqb (rank (line n)) r ≡ false).
      let before = which_line n (earlier (some_line rank r n) (eqb (rank (line n)) r) h other) in
      (before.0, omega (arith, before.1), before.2))
      (cases_Bool (eqb (rank (line n)) r))
    where
      earlier : (a b : Bool) → (a || b) ≡ true → b ≡ false → a ≡ true
      earlier true b h k = refl
      earlier false b h k = absurd (true≢false (sym h ∙ k))

module _ (p : ℕ → Bool) where
  pub many_none : how_many 0 p ≡ 0
  unfolding how_many
  many_none = refl

  many_suc : (n : ℕ) → how_many (suc n) p ≡ how_many n p + cond (p n) 1 0
  unfolding how_many
  many_suc n = refl

  many_more : (n : ℕ) (b : Bool) → b ≡ p n → how_many (n + 1) p ≡ how_many n p + cond b 1 0
  many_more n b h = rw add-one (many_suc n ∙ ap (λ v. how_many n p + cond v 1 0) (sym h))

  pub many_more_yes : (n : ℕ) → true ≡ p n → how_many (n + 1) p ≡ how_many n p + 1
  many_more_yes n h = many_more n true h

  pub many_more_no : (n : ℕ) → false ≡ p n → how_many (n + 1) p ≡ how_many n p
  many_more_no n h = many_more n false h ∙ omega arith

  many_step : (n : ℕ) → how_many n p ≤ how_many (n + 1) p
  many_step n =
      ⊎_elim
      (λ (h : p n ≡ true). omega (arith, many_more_yes n (sym h)))
      (λ (h : p n ≡ false). omega (arith, many_more_no n (sym h)))
      (cases_Bool (p n))

  pub many_grows : (m k : ℕ) → how_many m p ≤ how_many (m + k) p
  many_grows m zero = let same : m + 0 ≡ m = omega arith in rw same (omega arith)
  many_grows m (suc k) =
      let same : m + suc k ≡ (m + k) + 1 = omega arith in
      let before = many_grows m k in
      let more = many_step (m + k) in
      rw same (omega arith)

  pub many_few : (n : ℕ) → how_many n p ≤ n
  many_few zero = omega (arith, many_none)
  many_few (suc n) =
      ⊎_elim
      (λ (h : p n ≡ true). let e : suc n ≡ n + 1 = omega arith in rw e (omega (arith, many_few n, many_more_yes n (sym h))))
      (λ (h : p n ≡ false). let e : suc n ≡ n + 1 = omega arith in rw e (omega (arith, many_few n, many_more_no n (sym h))))
      (cases_Bool (p n))

many_same : (n : ℕ) (p q : ℕ → Bool) → ((k : ℕ) → k < n → p k ≡ q k) → how_many n p ≡ how_many n q
many_same zero p q h = many_none p ∙ sym (many_none q)
many_same (suc n) p q h =
    let before = many_same n p q (λ k l. h k (omega arith)) in
    many_suc p n ∙ (ap (λ v. v + cond (p n) 1 0) before ∙ (ap (λ b. how_many n q + cond b 1 0) (h n (omega arith)) ∙ sym (many_suc q n)))

-- one more number k that passes: counted unless it passed before
or_false : (b : Bool) → (b || false) ≡ b
or_false true = refl
or_false false = refl

or_true : (b : Bool) → (b || true) ≡ true
or_true true = refl
or_true false = refl

module _ (p : ℕ → Bool) (k : ℕ) where
  abbrev joined : ℕ → Bool
  joined r = p r || eqb k r

  joined_other : (r : ℕ) → (k ≡ r → ⊥) → joined r ≡ p r
  joined_other r apart = ap (λ b. p r || b) (ne_eqb k r apart) ∙ or_false (p r)

  joined_here : joined k ≡ true
  joined_here = ap (λ b. p k || b) (eq-eqb k k refl) ∙ or_true (p k)

  -- below k nothing changes
  joined_below : (n : ℕ) → n ≤ k → how_many n joined ≡ how_many n p
  joined_below n le = many_same n joined p (λ r l. joined_other r (λ e. omega arith))

  joined_above : (d : ℕ) → how_many (k + 1 + d) joined ≡ how_many (k + 1 + d) p + cond (not (p k)) 1 0
  joined_above zero =
      let same : k + 1 + 0 ≡ k + 1 = omega arith in
      rw same
      (many_more_yes joined k (sym joined_here)
      ∙ ⊎_elim
      (λ (h : p k ≡ true).
      many_one (p k) h (joined_below k (omega arith)) (many_more_yes p k (sym h)))
      (λ (h : p k ≡ false).
      many_zero (p k) h (joined_below k (omega arith)) (many_more_no p k (sym h)))
      (cases_Bool (p k)))
    where
      many_one : (b : Bool) → b ≡ true → {x y z : ℕ} → x ≡ y → z ≡ y + 1 → x + 1 ≡ z + cond (not b) 1 0
      many_one true h a e = omega arith
      many_one false h a e = absurd (true≢false (sym h))

      many_zero : (b : Bool) → b ≡ false → {x y z : ℕ} → x ≡ y → z ≡ y → x + 1 ≡ z + cond (not b) 1 0
      many_zero false h a e = omega arith
      many_zero true h a e = absurd (true≢false h)
  joined_above (suc d) =
      let same : k + 1 + suc d ≡ (k + 1 + d) + 1 = omega arith in
      let before = joined_above d in
      let other = joined_other (k + 1 + d) (λ e. omega arith) in
      rw same
      (⊎_elim
      (λ (h : p (k + 1 + d) ≡ true).
      omega (arith, before, many_more_yes joined (k + 1 + d) (sym (other ∙ h)), many_more_yes p (k + 1 + d) (sym h)))
      (λ (h : p (k + 1 + d) ≡ false).
      omega (arith, before, many_more_no joined (k + 1 + d) (sym (other ∙ h)), many_more_no p (k + 1 + d) (sym h)))
      (cases_Bool (p (k + 1 + d))))

module _ (rank : LineNo → ℕ) (bound : ℕ) (bounded : (i : LineNo) → rank i < bound) where
  abbrev taken : ℕ → ℕ → Bool
  taken lines r = some_line rank r lines

  none_taken : (n : ℕ) → how_many n (taken 0) ≡ 0
  unfolding some_line
  none_taken zero = many_none (taken 0)
  none_taken (suc n) = many_suc (taken 0) n ∙ (ap (λ v. v + 0) (none_taken n) ∙ omega arith)

  -- counted by lines and counted by ranks, it is one number
  pub by_ranks : (lines : ℕ) → different_ranks rank lines ≡ how_many bound (taken lines)
  unfolding some_line
  by_ranks zero = many_none (first_of_its_rank rank) ∙ sym (none_taken bound)
  by_ranks (suc n) =
      let k = rank (line n) in
      let d : ℕ = bound - (k + 1) in
      let whole : k + 1 + d ≡ bound = omega (arith, bounded (line n)) in
      let grown : how_many bound (joined (taken n) k) ≡ how_many bound (taken n) + cond (not (taken n k)) 1 0 =
      subst (λ m. how_many m (joined (taken n) k) ≡ how_many m (taken n) + cond (not (taken n k)) 1 0) whole
      (joined_above (taken n) k d) in
      many_suc (first_of_its_rank rank) n ∙ (ap (λ v. v + cond (not (taken n k)) 1 0) (by_ranks n) ∙ sym grown)

  module _ (lines : ℕ) where
    takes : (i : LineNo) → i.0 < lines → taken lines (rank i) ≡ true
    takes i l = line_here rank (rank i) lines i.0 l refl

    -- the ranks of a nest rise outwards, so that they are as many as its handlers
    nest_above :
        (i : LineNo) (outer : List LineNo) → Nested rank lines (i ∷ outer) →
        length (i ∷ outer) + how_many (rank i) (taken lines) ≤ how_many bound (taken lines)
    nest_above i [] l =
        let here = many_more_yes (taken lines) (rank i) (sym (takes i l)) in
        let k : ℕ = bound - (rank i + 1) in
        let whole : (rank i + 1) + k ≡ bound = omega (arith, bounded i) in
        let grown = subst (λ m. how_many (rank i + 1) (taken lines) ≤ how_many m (taken lines)) whole (many_grows (taken lines) (rank i + 1) k) in
        omega arith
    nest_above i (j ∷ outer) n =
        let here = many_more_yes (taken lines) (rank i) (sym (takes i n.0)) in
        let above = nest_above j outer n.2 in
        let less : rank i < rank j = n.1 in
        let k : ℕ = rank j - (rank i + 1) in
        let whole : (rank i + 1) + k ≡ rank j = omega arith in
        let grown = subst (λ m. how_many (rank i + 1) (taken lines) ≤ how_many m (taken lines)) whole (many_grows (taken lines) (rank i + 1) k) in
        omega arith

    pub nest_within : (nest : List LineNo) → Nested rank lines nest → length nest ≤ different_ranks rank lines
    nest_within [] n = omega arith
    nest_within (i ∷ outer) n = omega (arith, nest_above i outer n, by_ranks lines)

    -- the ranks of a nest are r or more
    abbrev From : ℕ → List LineNo → Type 0
    From r [] = Unit {0}
    From r (i ∷ outer) = r ≤ rank i

    -- a nest with a handler for each rank from r on that some line has
    abbrev Full : ℕ → Type 0
    Full r =
        (nest : List LineNo) × Nested rank lines nest × From r nest
        × (length nest + how_many r (taken lines) ≡ how_many bound (taken lines))

    lower : (r : ℕ) (nest : List LineNo) → From (r + 1) nest → From r nest
    lower r [] f = tt
    lower r (i ∷ outer) f = omega arith

    inside : (i : LineNo) (nest : List LineNo) → i.0 < lines → Nested rank lines nest → From (rank i + 1) nest → Nested rank lines (i ∷ nest)
    inside i [] l n f = l
    inside i (j ∷ outer) l n f = (l, omega arith, n)

    full : (d r : ℕ) → r + d ≡ bound → Full r
    full zero r e =
        let same : r ≡ bound = omega arith in
        ([], tt, tt, ap (λ m. 0 + how_many m (taken lines)) same ∙ omega arith)
    full (suc d) r e =
        let above = full d (r + 1) (omega arith) in
        ⊎_elim
        (λ (h : taken lines r ≡ true).
        let found = which_line rank r lines h in
        let i : LineNo = line found.0 in
        let is : rank i ≡ r = found.2 in
        let f : From (rank i + 1) above.0 = subst (λ m. From (m + 1) above.0) (sym is) above.2 in (
          i ∷ above.0,
          inside i above.0 found.1 above.1 f,
          omega arith,
          omega (arith, above.3, many_more_yes (taken lines) r (sym h)),
        ))
        (λ (h : taken lines r ≡ false).
        (above.0, above.1, lower r above.0 above.2, omega (arith, above.3, many_more_no (taken lines) r (sym h))))
        (cases_Bool (taken lines r))

    pub figure_nests : OneMoreThanTheDeepestNest rank lines (figure_of rank lines)
    figure_nests =
        let whole = full bound 0 (omega arith) in
        record {
          above_all = λ nest n. omega (arith, nest_within nest n);
          deepest = whole.0;
          deepest_nests = whole.1;
          met = omega (arith, whole.3, many_none (taken lines), by_ranks lines);
        }

-- the numbers below n, and the definitions as a search through them and a count of them
numbers_more : (from n : ℕ) → range_with_len from (suc n) ≡ range_with_len from n ++ (from + n) ∷ []
numbers_more from zero = let e : from + 0 ≡ from = omega arith in rw e
numbers_more from (suc n) = let e : from + 1 + n ≡ from + suc n = omega arith in ap (λ l. from ∷ l) (numbers_more (from + 1) n ∙ rw e)

pub some_listed : (rank : LineNo → ℕ) (r n : ℕ) → some_line rank r n ≡ list_any (λ i. rank (record { 0 = i }) == r) (range_with_len 0 n)
unfolding some_line
some_listed rank r zero = refl
some_listed rank r (suc n) =
    let has = λ (i : ℕ). rank (record { 0 = i }) == r in
    ap (λ b. b || has n) (some_listed rank r n)
    ∙ sym (ap (list_any has) (numbers_more 0 n) ∙ (list_any-append has (range_with_len 0 n) ((0 + n) ∷ []) ∙ rw (zero-add n) (ap (λ b. list_any has (range_with_len 0 n) || b) (or_false (has n)))))

pub many_listed : (p : ℕ → Bool) (n : ℕ) → how_many n p ≡ length (filter p (range_with_len 0 n))
unfolding how_many
many_listed p zero = refl
many_listed p (suc n) =
    ap (λ k. k + cond (p n) 1 0) (many_listed p n)
    ∙ sym (ap (λ l. length (filter p l)) (numbers_more 0 n) ∙ (ap length (filter-append p (range_with_len 0 n) ((0 + n) ∷ []))
    ∙ (length-append (filter p (range_with_len 0 n)) (filter p ((0 + n) ∷ [])) ∙ rw (zero-add n) (ap (λ k. length (filter p (range_with_len 0 n)) + k) (one (p n))))))
  where
    one : (b : Bool) → length (cond b (n ∷ []) []) ≡ cond b 1 0
    one true = refl
    one false = refl
