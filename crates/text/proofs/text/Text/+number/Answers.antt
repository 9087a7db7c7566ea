use Rattle.std.proofs.Common.{◌≡◌, ℕ, ◌+◌, ◌/◌, ◌%◌, ◌<◌, List, [], ◌∷◌, ◌++◌, decimal, sym, ap, ◌∙◌, arith, rules}
use Rattle.std.proofs.lemmas.Fmt.{decimal_digit, decimal_step}
use Rattle.text.specs.Texts.{cut}
use Rattle.text.proofs.Cutting.{cut_on}
use Rattle.text.proofs.text.Text.+number.Goals as goal
use Rattle.text.proofs.text.Text.+number.Goals.{then-n-ge10, else-n-ge10}

one_digit : (n : ℕ) → n < 10 → (48 + n % 10) ∷ [] ≡ decimal n
one_digit n small =
    let same : n % 10 ≡ n = omega arith in
    ap (λ d. (48 + d) ∷ []) same ∙ sym (decimal_digit n small)

pub returns : goal.returns
returns t c = elim c.if-n-ge10.branch [
  | then-n-ge10 w ↦
      cut_on 512 c.args.self.now (decimal (c.args.n / 10)) ((48 + c.args.n % 10) ∷ []) (w.self-is ∙ w.number.ensures) c.push.ensures
      ∙ ap (λ bs. cut (c.args.self.now ++ bs)) (sym (decimal_step c.args.n w.if-n-ge10.true (search rules)))
  | else-n-ge10 w ↦
      c.push.ensures
      ∙ ap (λ (self : List ℕ). cut (self ++ (48 + c.args.n % 10) ∷ [])) w.self-is
      ∙ ap (λ bs. cut (c.args.self.now ++ bs)) (one_digit c.args.n w.if-n-ge10.false)
]
