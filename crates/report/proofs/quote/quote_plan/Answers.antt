use Rattle.std.proofs.Common.{◌≡◌, ℕ, ◌-◌, false, ltb, List, length, Ok, Err, Result, sym, ap, ◌∙◌, arith}
use Rattle.std.proofs.lemmas.Result.{err_from_is_err_and}
use Rattle.std.proofs.lemmas.Bool.{cond-false, le-ltb}
use Rattle.board.specs.Figure.{different_ranks, figure_of}
use Rattle.board.specs.Plans.{Parts}
use Rattle.board.specs.Ranks.{plan_rank, rank_by}
use Rattle.board.specs.Viewed.{parts}
use Rattle.board.proofs.Ranking.{plan_ranked}
use Rattle.formats.specs.declared.fault.PlanFault.{PlanFault}
use Rattle.formats.specs.Decode.{decode}
use Rattle.report.specs.declared.quote.Quote.{Quote}
use Rattle.report.specs.Quotes.{of_reading, quoted}
use Rattle.report.proofs.quote.quote_plan.Goals as goal

-- input that is not too long is quoted as it reads
within : (bs : List ℕ) {x : Result (Parts × List ℕ) PlanFault} → ltb 65536 (length bs) ≡ false → x ≡ decode bs → of_reading x ≡ quoted bs
within bs short read = ap of_reading read ∙ sym (cond-false _ _ _ short)

pub returns-in_err-plan : goal.returns-in_err-plan
returns-in_err-plan c =
    let q = err_from_is_err_and c.from_residual.result c.from_residual.ensures.1 in
    let bs = c.args.bytes.now in
    let short = le-ltb 65536 (length bs) c.if-bytes-gt-LIMIT.false in
    (q.1 ∙ ap Err q.2) ∙ within bs short c.in_err-plan.ensures.answer

abbrev quote_with : ℕ → ℕ → ℕ → ℕ → ℕ → ℕ → ℕ → ℕ → Quote
quote_with t l n p r k s rest =
    record { counts = record { tasks = t; lines = l; events = n }; policy = p; rule = r; ranks = k; suspended = s; rest = rest }

same_quote :
    {t t' l l' n n' p p' r r' k k' s s' : ℕ} (rest : ℕ) → t ≡ t' → l ≡ l' → n ≡ n' → p ≡ p' → r ≡ r' → k ≡ k' → s ≡ s' →
    quote_with t l n p r k s rest ≡ quote_with t' l' n' p' r' k' s' rest
same_quote rest a b d e f g h = cc

pub returns : goal.returns
returns c =
    let bs = c.args.bytes.now in
    let plan = c.in_ok-plan.plan in
    let p = parts plan in
    let nesting = c.nesting-nesting.result in
    let short = le-ltb 65536 (length bs) c.if-bytes-gt-LIMIT.false in
    let ranked : rank_by nesting.rule nesting.levels.of ≡ plan_rank p = plan_ranked p nesting.rule nesting.levels.of c.nesting-nesting.ensures.rule c.nesting-nesting.ensures.levels in
    let same = c.tables-tables.ensures in
    let figure : c.figure-suspended.result ≡ figure_of (plan_rank p) (length p.levels) =
    c.figure-suspended.ensures.is ∙ ap (λ rank. figure_of rank (length p.levels)) ranked in
    let less : c.figure-suspended.result - 1 ≡ different_ranks (plan_rank p) (length p.levels) = ap (λ n. n - 1) figure ∙ omega arith in
    ap Ok
    (same_quote (length c.in_ok-plan.rest.now) c.counts.ensures.tasks c.counts.ensures.lines c.counts.ensures.events
    (ap (λ (q : Parts). q.policy) same) (ap (λ (q : Parts). q.rule) same)
    less figure)
    ∙ within bs short c.in_ok-plan.ensures.answer
