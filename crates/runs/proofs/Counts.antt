-- Counting the steps of a run.
use Rattle.std.proofs.Common.{◌≡◌, ℕ, suc, ◌+◌, ◌*◌, ◌<◌, ◌≤◌, leb, List, map, length, drop, Some, None, Ok, Err, Option, sym, refl, ap, ◌∙◌, arith}
use Rattle.std.proofs.lemmas.List.{length-map}
use Rattle.std.proofs.lemmas.Bool.{leb-true}
use Rattle.board.specs.Refusing.{first, or_else, unless}
use Rattle.board.proofs.Refusing.{first_append, needs_met}
use Rattle.runs.specs.declared.fault.RunFault.{RunFault}
use Rattle.runs.specs.declared.fault.RunFault.TheVariants.{Short}
use Rattle.runs.specs.declared.step.Step.{Step}
use Rattle.runs.specs.Runs.{counted, decode_run, found_at, opening_tests, run_tests, step_at, steps_in, steps_tests}
use Rattle.runs.specs.Steps.{call_of, step_tests}
use Rattle.runs.proofs.Stepping.{steps_here, steps_none}

-- the first of some tests finds nothing, if none does
none_first : {E : Type 0} (a b : Option E) → or_else a b ≡ None → a ≡ None
none_first None b h = refl
none_first (Some e) b h = absurd (cc)

-- after `count` steps, none of which is refused
pub record Counting (bs : List ℕ) (count : ℕ) : Type 0 where
  pub within : 5 + 4 * count ≤ length bs
  pub same : first (steps_tests 5 (steps_in (drop 5 bs))) ≡ first (steps_tests (5 + 4 * count) (steps_in (drop (5 + 4 * count) bs)))
  pub left : length (steps_in (drop 5 bs)) ≡ count + length (steps_in (drop (5 + 4 * count) bs))

module _ (bs : List ℕ) where
  pub run_found : first (run_tests bs) ≡ or_else (first (opening_tests bs)) (first (steps_tests 5 (steps_in (drop 5 bs))))
  run_found = first_append (opening_tests bs) (steps_tests 5 (steps_in (drop 5 bs)))

  pub opened_long : first (opening_tests bs) ≡ None → 5 ≤ length bs
  opened_long opened = leb-true 5 (length bs) (needs_met (Short (length bs)) (leb 5 (length bs)) (none_first _ _ opened))

  module _ (k : ℕ) (so : Counting bs k) where
    abbrev place : ℕ
    place = 5 + 4 * k

    module _ (room : place + 4 ≤ length bs) where
      unrolled : first (steps_tests 5 (steps_in (drop 5 bs))) ≡ or_else (found_at place (first (step_tests (step_at bs place)))) (first (steps_tests (place + 4) (steps_in (drop (place + 4) bs))))
      unrolled = so.same ∙ ap (λ (l : List Step). first (steps_tests place l)) (steps_here bs place room)

      pub counting_more : first (step_tests (step_at bs place)) ≡ None → Counting bs (k + 1)
      counting_more good =
          let next : place + 4 ≡ 5 + 4 * (k + 1) = omega arith in
          record {
            within = omega arith;
            same =
                unrolled
                ∙ ap (λ o. or_else (found_at place o) (first (steps_tests (place + 4) (steps_in (drop (place + 4) bs))))) good
                ∙ ap (λ p. first (steps_tests p (steps_in (drop p bs)))) next;
            left =
                so.left
                ∙ ap (λ (l : List Step). k + length l) (steps_here bs place room)
                ∙ ap (λ p. k + suc (length (steps_in (drop p bs)))) next
                ∙ omega arith;
          }

      pub counted_fault : (f : RunFault) → first (opening_tests bs) ≡ None → found_at place (first (step_tests (step_at bs place))) ≡ Some f → Err f ≡ counted (decode_run bs)
      counted_fault f opened bad =
          let all : first (run_tests bs) ≡ Some f =
          run_found ∙ ap (λ o. or_else o (first (steps_tests 5 (steps_in (drop 5 bs))))) opened ∙ unrolled ∙ ap (λ o. or_else o (first (steps_tests (place + 4) (steps_in (drop (place + 4) bs))))) bad in
          sym (ap (λ o. counted (unless o (map call_of (steps_in (drop 5 bs))))) all)

    pub counted_end : first (opening_tests bs) ≡ None → length bs < place + 4 → Ok k ≡ counted (decode_run bs)
    counted_end opened short =
        let none = steps_none bs place short in
        let all : first (run_tests bs) ≡ None =
        run_found ∙ ap (λ o. or_else o (first (steps_tests 5 (steps_in (drop 5 bs))))) opened ∙ so.same ∙ ap (λ (l : List Step). first (steps_tests place l)) none in
        let long : length (map call_of (steps_in (drop 5 bs))) ≡ k =
        length-map (steps_in (drop 5 bs)) call_of ∙ so.left ∙ ap (λ (l : List Step). k + length l) none ∙ omega arith in
        sym (ap (λ o. counted (unless o (map call_of (steps_in (drop 5 bs))))) all ∙ ap Ok long)

  pub counted_opening : (f : RunFault) → first (opening_tests bs) ≡ Some f → Err f ≡ counted (decode_run bs)
  counted_opening f bad =
      let all : first (run_tests bs) ≡ Some f = run_found ∙ ap (λ o. or_else o (first (steps_tests 5 (steps_in (drop 5 bs))))) bad in
      sym (ap (λ o. counted (unless o (map call_of (steps_in (drop 5 bs))))) all)
