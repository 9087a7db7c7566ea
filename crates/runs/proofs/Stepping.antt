-- The steps in some bytes, one by one.
use Rattle.std.proofs.Common.{◌≡◌, ℕ, ◌+◌, ◌<◌, ◌≤◌, Bool, true, false, leb, List, [], ◌∷◌, length, get_or, drop, Some, None, Ok, Err, Option, Result, sym, refl, ap, ◌∙◌, arith}
use Rattle.std.proofs.lemmas.List.{drop_more, length-drop}
use Rattle.std.proofs.lemmas.Bool.{cond-false, cond-true, leb-false, leb-true}
use Rattle.board.specs.Refusing.{first, unless}
use Rattle.kernel.specs.declared.call.Call.{Call}
use Rattle.runs.specs.declared.fault.RunFault.{RunFault}
use Rattle.runs.specs.declared.fault.StepRefusal.{StepRefusal}
use Rattle.runs.specs.declared.step.Step.{Step}
use Rattle.runs.specs.Runs.{found_at, handed_out, next_call, next_place, step_at, steps_in}
use Rattle.runs.specs.Steps.{call_of, step_call, step_tests}

pub steps_here : (bs : List ℕ) (place : ℕ) → place + 4 ≤ length bs → steps_in (drop place bs) ≡ step_at bs place ∷ steps_in (drop (place + 4) bs)
steps_here bs p room =
    let a : drop p bs ≡ get_or bs p 0 ∷ drop (p + 1) bs = drop_more bs p 0 (omega arith) in
    let b : drop (p + 1) bs ≡ get_or bs (p + 1) 0 ∷ drop (p + 1 + 1) bs = drop_more bs (p + 1) 0 (omega arith) in
    let c : drop (p + 2) bs ≡ get_or bs (p + 2) 0 ∷ drop (p + 2 + 1) bs = drop_more bs (p + 2) 0 (omega arith) in
    let d : drop (p + 3) bs ≡ get_or bs (p + 3) 0 ∷ drop (p + 3 + 1) bs = drop_more bs (p + 3) 0 (omega arith) in
    let e2 : p + 1 + 1 ≡ p + 2 = omega arith in
    let e3 : p + 2 + 1 ≡ p + 3 = omega arith in
    let e4 : p + 3 + 1 ≡ p + 4 = omega arith in
    ap steps_in
    (a
    ∙ ap (λ r. get_or bs p 0 ∷ r)
    (b
    ∙ ap (λ k. get_or bs (p + 1) 0 ∷ drop k bs) e2
    ∙ ap (λ r. get_or bs (p + 1) 0 ∷ r) (c ∙ ap (λ k. get_or bs (p + 2) 0 ∷ drop k bs) e3 ∙ ap (λ r. get_or bs (p + 2) 0 ∷ r) (d ∙ ap (λ k. get_or bs (p + 3) 0 ∷ drop k bs) e4))))

few : (bs : List ℕ) → length bs < 4 → steps_in bs ≡ []
few [] h = refl
few (a ∷ []) h = refl
few (a ∷ b ∷ []) h = refl
few (a ∷ b ∷ c ∷ []) h = refl
few (a ∷ b ∷ c ∷ d ∷ bs) h = absurd (omega arith)

pub steps_none : (bs : List ℕ) (place : ℕ) → length bs < place + 4 → steps_in (drop place bs) ≡ []
steps_none bs p short = few (drop p bs) (omega (arith, length-drop p bs))

-- what the next call says of the bytes

after_step : (o : Option StepRefusal) (place : ℕ) (here c : Call) → handed_out place (unless o here) ≡ Ok (Some c) → (o ≡ None) × (c ≡ here)
after_step None p here c h = (refl, let e : c ≡ here = cc in e)
after_step (Some r) p here c h = absurd (cc)

after_fault : (o : Option StepRefusal) (place : ℕ) (here : Call) (f : RunFault) → handed_out place (unless o here) ≡ Err f → found_at place o ≡ Some f
after_fault None p here f h = absurd (cc)
after_fault (Some r) p here f h = cc

no_end : (o : Option StepRefusal) (place : ℕ) (here : Call) → handed_out place (unless o here) ≡ Ok None → ⊥
no_end None p here h = cc
no_end (Some r) p here h = cc

module _ (bs : List ℕ) (place : ℕ) where
  abbrev here : Step
  here = step_at bs place

  by_room : {A : Type 0} {x : Result (Option Call) RunFault} → next_call bs place ≡ x → (place + 4 ≤ length bs → handed_out place (step_call here) ≡ x → A) → (length bs < place + 4 → Ok None ≡ x → A) → A
  by_room {A} {x} e room short = go (leb (place + 4) (length bs)) refl
    where
      go : (b : Bool) → leb (place + 4) (length bs) ≡ b → A
      go true t = room (leb-true _ _ t) (sym (cond-true _ _ _ t) ∙ e)
      go false t = short (leb-false _ _ t) (sym (cond-false _ _ _ t) ∙ e)

  pub next_some : (c : Call) → next_call bs place ≡ Ok (Some c) → (place + 4 ≤ length bs) × (first (step_tests here) ≡ None) × (c ≡ call_of here)
  next_some c e =
      by_room e (λ l h. let k = after_step (first (step_tests here)) place (call_of here) c h in (l, k.0, k.1))
      (λ l h. absurd (cc))

  pub next_fault : (f : RunFault) → next_call bs place ≡ Err f → (place + 4 ≤ length bs) × (found_at place (first (step_tests here)) ≡ Some f)
  next_fault f e =
      by_room e (λ l h. (l, after_fault (first (step_tests here)) place (call_of here) f h))
      (λ l h. absurd (cc))

  pub next_none : next_call bs place ≡ Ok None → length bs < place + 4
  next_none e = by_room e (λ l h. absurd (no_end (first (step_tests here)) place (call_of here) h)) (λ l h. l)

  -- where four bytes are left, no refusal is a call
  pub next_ok : (o : Option Call) → place + 4 ≤ length bs → next_call bs place ≡ Ok o → (first (step_tests here) ≡ None) × (next_place place (Ok o) ≡ place + 4)
  next_ok (Some c) room e = ((next_some c e).1, refl)
  next_ok None room e = absurd (let short = next_none e in omega arith)
