-- Ranks that agree on a plan's lines have one figure.
use Rattle.std.proofs.Common.{◌≡◌, ℕ, zero, suc, ◌+◌, ◌<◌, Bool, cond, not, ◌||◌, eqb, refl, ap, ◌∙◌, arith}
use Rattle.numbers.specs.declared.number.LineNo.{LineNo}
use Rattle.board.specs.Figure.{figure_of, first_of_its_rank, how_many, some_line}

module _ (f g : LineNo → ℕ) where
  same_line : (r n : ℕ) → ((i : LineNo) → i.0 < n → f i ≡ g i) → some_line f r n ≡ some_line g r n
  unfolding some_line
  same_line r zero same = refl
  same_line r (suc n) same =
      let before : some_line f r n ≡ some_line g r n = same_line r n (λ i l. same i (omega arith)) in
      let here : f (record { 0 = n }) ≡ g (record { 0 = n }) = same (record { 0 = n }) (omega arith) in
      ap (λ v. v || eqb (f (record { 0 = n })) r) before ∙ ap (λ k. some_line g r n || eqb k r) here

  same_first : (n i : ℕ) → i < n → ((j : LineNo) → j.0 < n → f j ≡ g j) → first_of_its_rank f i ≡ first_of_its_rank g i
  same_first n i l same =
      ap (λ k. not (some_line f k i)) (same (record { 0 = i }) l) ∙ ap not (same_line (g (record { 0 = i })) i (λ j m. same j (omega arith)))

same_many : (p q : ℕ → Bool) (n : ℕ) → ((i : ℕ) → i < n → p i ≡ q i) → how_many n p ≡ how_many n q
unfolding how_many
same_many p q zero same = refl
same_many p q (suc n) same =
    ap (λ k. k + cond (p n) 1 0) (same_many p q n (λ i l. same i (omega arith))) ∙ ap (λ v. how_many n q + cond v 1 0) (same n (omega arith))

pub same_figure : (f g : LineNo → ℕ) (n : ℕ) → ((i : LineNo) → i.0 < n → f i ≡ g i) → figure_of f n ≡ figure_of g n
same_figure f g n same = ap (λ k. 1 + k) (same_many (first_of_its_rank f) (first_of_its_rank g) n (λ i l. same_first f g n i l same))
