use Rattle.std.proofs.Common.{◌≡◌, List, ℕ, [], take, Bor}
use Rattle.text.specs.Texts.{cut}
use Rattle.report.proofs.Texts.{lines}
use Rattle.report.proofs.quote.Quote.text.Given as goal

abbrev pub invariant-loop-name : goal.invariant-loop-name
invariant-loop-name l = l.text ≡ cut (lines (λ (name : Bor (List ℕ)). name.now) [] (take l.name-index l.name-items))
