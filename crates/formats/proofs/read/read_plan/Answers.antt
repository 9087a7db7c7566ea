use Rattle.std.proofs.Common.{◌≡◌, ℕ, List, Ok, Err, sym, ap, ◌∙◌, arith, rules}
use Rattle.std.proofs.lemmas.List.{take_rest}
use Rattle.board.specs.Refusing.{ComesFirst}
use Rattle.board.specs.Viewed.{parts}
use Rattle.board.proofs.Legality.{plan_legal}
use Rattle.board.proofs.Refusing.{first_comes_first, found_this}
use Rattle.formats.specs.declared.fault.PlanFault.{PlanFault}
use Rattle.formats.specs.Decode.{BeginsWithAPlan, byte_tests, decode}
use Rattle.formats.proofs.OneForm.{one_form}
use Rattle.formats.proofs.RoundTrip.{legal_read_back}
use Rattle.formats.proofs.read.read_plan.Goals as goal

comes_first : (bs : List ℕ) (e : PlanFault) → Err e ≡ decode bs → ComesFirst (byte_tests bs) e
comes_first bs e h = first_comes_first (byte_tests bs) e (found_this _ _ h)

no_plan_begins : (bs : List ℕ) (e : PlanFault) → Err e ≡ decode bs → BeginsWithAPlan bs → ⊥
no_plan_begins bs e h begins =
    let read = ap decode begins.3 ∙ legal_read_back begins.0 begins.2 begins.1 in
    let clash = h ∙ read in
    let z : ◌≡◌ {A = ℕ} 0 1 = cc in
    omega arith

pub returns-in_err-plan-clause-first : goal.returns-in_err-plan-clause-first
returns-in_err-plan-clause-first c =
    search (rules, comes_first c.args.bytes.now c.in_err-plan.field-0.0 c.in_err-plan.ensures.answer)

pub returns-in_err-plan-clause-no_plan : goal.returns-in_err-plan-clause-no_plan
returns-in_err-plan-clause-no_plan c =
    search (rules, no_plan_begins c.args.bytes.now c.in_err-plan.field-0.0 c.in_err-plan.ensures.answer)

pub returns : goal.returns
returns c =
    let bs = c.args.bytes.now in
    let a =
    ap (λ v. Ok (parts c.in_ok-plan.plan, v)) (take_rest bs c.in_ok-plan.size)
    ∙ c.in_ok-plan.ensures.answer in
    let plan = c.in_ok-plan.plan in
    let whole = one_form bs c.in_ok-plan.ensures.bytes (parts plan) _ (sym a) in
    record {
      answer = a;
      whole = whole;
      one_form = λ other bytes read. sym (one_form other bytes (parts plan) _ read) ∙ whole;
      no_further = legal_read_back (parts plan) (plan_legal plan);
      first = tt;
      no_plan = tt;
    }
