-- Equal parts, one by one.
use Rattle.std.proofs.Common.{◌≡◌, ℕ, List, ap, ◌∙◌}
use Rattle.board.specs.Plans.{Parts}

abbrev pub parts_of : ℕ → ℕ → ℕ → ℕ → List ℕ → List ℕ → List ℕ → Parts
parts_of policy rule start favoured ps ls ws =
    record { policy = policy; rule = rule; start = start; favoured = favoured; priorities = ps; levels = ls; wakes = ws }

pub same_parts :
    (policy rule : ℕ) {s s' f f' : ℕ} {ps ps' ls ls' ws ws' : List ℕ} → s ≡ s' → f ≡ f' → ps ≡ ps' → ls ≡ ls' → ws ≡ ws' →
    parts_of policy rule s f ps ls ws ≡ parts_of policy rule s' f' ps' ls' ws'
same_parts policy rule {s} {s'} {f} {f'} {ps} {ps'} {ls} {ls'} {ws} {ws'} a b c d e =
    ap (λ x. parts_of policy rule x f ps ls ws) a
    ∙ (ap (λ x. parts_of policy rule s' x ps ls ws) b
    ∙ (ap (λ x. parts_of policy rule s' f' x ls ws) c
    ∙ (ap (λ x. parts_of policy rule s' f' ps' x ws) d ∙ ap (λ x. parts_of policy rule s' f' ps' ls' x) e)))
