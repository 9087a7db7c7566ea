-- What a legal plan says of its parts.
use Rattle.std.proofs.Common.{◌≡◌, ℕ, ◌^◌, ◌<◌, ◌≤◌, ◌++◌, length, get_or, Some, None, Ok, Option, sym, refl, ◌∙◌, arith}
use Rattle.board.specs.Plans.{Parts, count_tests, number_tests, plan_tests, planned, set_tests}
use Rattle.board.specs.Refusing.{first, unless}
use Rattle.board.proofs.Planning.{counts_in_range, or_else_none, sets_known}
use Rattle.board.proofs.Refusing.{first_append}
use Rattle.kernel.specs.Rules.{lines, tasks}

pub record Legal (plan : Parts) : Type 0 where
  pub some_task : 1 ≤ tasks plan
  pub few_tasks : tasks plan ≤ 16
  pub few_lines : lines plan ≤ 16
  pub starts : plan.start < 2 ^ tasks plan
  pub wakes : (e : ℕ) → get_or plan.wakes e 0 < 2 ^ tasks plan

none_found : {A E : Type 0} (found : Option E) (a b : A) → unless found a ≡ Ok b → found ≡ None
none_found None a b h = refl
none_found (Some e) a b h = let z : ◌≡◌ {A = ℕ} 0 1 = cc in absurd (omega arith)

pub legal : (plan : Parts) → planned plan ≡ Ok plan → Legal plan
legal plan ok =
    let C = count_tests (length plan.priorities) (length plan.levels) (length plan.wakes) in
    let N = number_tests plan.policy plan.rule in
    let passed : first (plan_tests plan) ≡ None = none_found (first (plan_tests plan)) plan plan ok in
    let a = or_else_none (first C) _ (sym (first_append C (N ++ set_tests plan)) ∙ passed) in
    let b = or_else_none (first N) _ (sym (first_append N (set_tests plan)) ∙ a.1) in
    let few = counts_in_range (length plan.priorities) (length plan.levels) (length plan.wakes) a.0 in
    let known = sets_known plan b.1 in
    record { some_task = few.0; few_tasks = few.1; few_lines = few.2; starts = known.0; wakes = known.2 }
