-- Answering the steps of a run, one by one.
use Rattle.std.proofs.Common.{◌≡◌, ℕ, ◌+◌, ◌*◌, ◌<◌, ◌≤◌, List, [], ◌∷◌, ◌++◌, map, length, drop, Some, None, sym, refl, ap, ◌∙◌, append_assoc, append-nil, zero-add, arith}
use Rattle.std.proofs.lemmas.List.Edits.{paste_all}
use Rattle.std.proofs.lemmas.List.{length-append, length-map, length_push}
use Rattle.board.specs.Plans.{Parts}
use Rattle.board.specs.Refusing.{first}
use Rattle.kernel.specs.declared.call.Call.{Call}
use Rattle.kernel.specs.Histories.{answers, state_after}
use Rattle.kernel.specs.Rules.{Chooses, Ranks, apply, numbers}
use Rattle.kernel.specs.States.{State}
use Rattle.kernel.proofs.Listing.{answers_length, answers_more, answers_none, state_more, state_none}
use Rattle.formats.specs.Written.{placed}
use Rattle.formats.proofs.Placing.{placed_more}
use Rattle.runs.specs.declared.fault.RunFault.{RunFault}
use Rattle.runs.specs.declared.step.Step.{Step}
use Rattle.runs.specs.Runs.{found_at, step_at, steps_in, steps_tests}
use Rattle.runs.specs.Steps.{call_of, step_tests}
use Rattle.runs.proofs.OneForm.{neither}
use Rattle.runs.proofs.Stepping.{steps_here, steps_none}
use Rattle.driver.specs.Driven.{flat}

flat_push : (row : List (ℕ × ℕ)) (a n : ℕ) → flat (row ++ ((a, n) ∷ [])) ≡ flat row ++ (a ∷ n ∷ [])
flat_push [] a n = refl
flat_push (x ∷ row) a n = ap (λ l. x.0 ∷ x.1 ∷ l) (flat_push row a n)

length_flat : (row : List (ℕ × ℕ)) → length (flat row) ≡ 2 * length row
length_flat [] = refl
length_flat (x ∷ row) = let e = length_flat row in omega arith

empty_none : (steps : List Step) → length steps ≡ 0 → steps ≡ []
empty_none [] h = refl
empty_none (s ∷ steps) h = absurd (omega arith)

module _ (p : Parts) (choose : Chooses) (rank : Ranks) (run : List ℕ) (s0 : State) (out0 : List ℕ) where
  abbrev calls : List Call
  calls = map call_of (steps_in (drop 5 run))

  abbrev still : ℕ → List Step
  still k = steps_in (drop (5 + 4 * k) run)

  -- after k steps
  pub record Driving (s : State) (out : List ℕ) (k : ℕ) : Type 0 where
    pub within : 5 + 4 * k ≤ length run
    pub pass : first (steps_tests (5 + 4 * k) (still k)) ≡ None
    pub made : List Call
    pub long : length made ≡ k
    pub split : calls ≡ made ++ map call_of (still k)
    pub state : s ≡ state_after p choose rank made s0
    pub row : out ≡ placed out0 0 (flat (answers p choose rank made s0))

  pub driving_none : 5 ≤ length run → first (steps_tests 5 (steps_in (drop 5 run))) ≡ None → Driving s0 out0 0
  driving_none h good =
      record {
        within = h;
        pass = good;
        made = [];
        long = refl;
        split = refl;
        state = state_none p choose rank s0;
        row = ap (λ (l : List (ℕ × ℕ)). placed out0 0 (flat l)) (answers_none p choose rank s0);
      }

  module _ (s : State) (out : List ℕ) (k : ℕ) (so : Driving s out k) where
    abbrev place : ℕ
    place = 5 + 4 * k

    pub no_fault : (f : RunFault) → place + 4 ≤ length run → found_at place (first (step_tests (step_at run place))) ≡ Some f → ⊥
    no_fault f room bad =
        let unrolled : first (steps_tests place (step_at run place ∷ steps_in (drop (place + 4) run))) ≡ None =
        ap (λ (l : List Step). first (steps_tests place l)) (sym (steps_here run place room)) ∙ so.pass in
        let none : found_at place (first (step_tests (step_at run place))) ≡ None = (neither _ _ unrolled).0 in
        cc

    -- the next two numbers stand behind those that are there
    pub driving_more :
        (later : State) (call : Call) (v : List ℕ) (a n : ℕ) → place + 4 ≤ length run → 2 * k ≤ length out0 → call ≡ call_of (step_at run place) →
        later ≡ (apply p choose rank call s).0 → (a, n) ≡ numbers (apply p choose rank call s) → v ≡ placed out (2 * k) (a ∷ n ∷ []) → Driving later v (k + 1)
    driving_more later call v a n room fits is moved told put =
        let next : place + 4 ≡ 5 + 4 * (k + 1) = omega arith in
        let here = steps_here run place room in
        let unrolled : first (steps_tests place (step_at run place ∷ steps_in (drop (place + 4) run))) ≡ None =
        ap (λ (l : List Step). first (steps_tests place l)) (sym here) ∙ so.pass in
        let later_pass : first (steps_tests (place + 4) (steps_in (drop (place + 4) run))) ≡ None = (neither (found_at place (first (step_tests (step_at run place)))) _ unrolled).1 in
        let A : List (ℕ × ℕ) = answers p choose rank so.made s0 in
        let long : length (flat A) ≡ 2 * k = length_flat A ∙ (ap (λ m. 2 * m) (answers_length p choose rank so.made s0 ∙ so.long)) in
        let both : v ≡ placed out0 0 (flat A ++ (a ∷ n ∷ [])) =
        put ∙ ap (λ (o : List ℕ). placed o (2 * k) (a ∷ n ∷ [])) so.row ∙ placed_more out0 0 (flat A) (a ∷ n ∷ []) (2 * k) (omega arith) (omega arith) in
        let after : numbers (apply p choose rank call s) ≡ numbers (apply p choose rank call (state_after p choose rank so.made s0)) =
        ap (λ (x : State). numbers (apply p choose rank call x)) so.state in
        record {
          within = omega arith;
          pass = ap (λ q. first (steps_tests q (steps_in (drop q run)))) (sym next) ∙ later_pass;
          made = so.made ++ (call ∷ []);
          long = length_push so.made call ∙ ap (λ m. m + 1) so.long;
          split =
              so.split
              ∙ ap (λ (l : List Step). so.made ++ map call_of l) here
              ∙ ap (λ (c : Call). so.made ++ (c ∷ map call_of (steps_in (drop (place + 4) run)))) (sym is)
              ∙ ap (λ q. so.made ++ (call ∷ map call_of (steps_in (drop q run)))) next
              ∙ sym (append_assoc so.made (call ∷ []) (map call_of (still (k + 1))));
          state = moved ∙ ap (λ (x : State). (apply p choose rank call x).0) so.state ∙ sym (state_more p choose rank so.made call s0);
          row =
              both
              ∙ ap (placed out0 0)
              (sym (flat_push A a n)
              ∙ ap (λ (v : ℕ × ℕ). flat (A ++ (v ∷ []))) (told ∙ after)
              ∙ ap flat (sym (answers_more p choose rank so.made call s0)));
        }

    -- no step is left
    driving_whole : still k ≡ [] → (count : ℕ) → count ≡ length (steps_in (drop 5 run)) → out ≡ flat (answers p choose rank calls s0) ++ drop (2 * count) out0
    driving_whole none count counts =
        let all : calls ≡ so.made = so.split ∙ ap (λ (l : List Step). so.made ++ map call_of l) none ∙ append-nil so.made in
        let size : length calls ≡ count = length-map (steps_in (drop 5 run)) call_of ∙ sym counts in
        let A : List ℕ = flat (answers p choose rank calls s0) in
        let long : 0 + length A ≡ 2 * count =
        zero-add (length A) ∙ length_flat (answers p choose rank calls s0) ∙ ap (λ m. 2 * m) (answers_length p choose rank calls s0 ∙ size) in
        so.row
        ∙ ap (λ (l : List Call). placed out0 0 (flat (answers p choose rank l s0))) (sym all)
        ∙ paste_all out0 0 A (length A) refl
        ∙ ap (λ m. A ++ drop m out0) long

    pub driving_end : (count : ℕ) → count ≡ length (steps_in (drop 5 run)) → length run < place + 4 → out ≡ flat (answers p choose rank calls s0) ++ drop (2 * count) out0
    driving_end count counts short = driving_whole (steps_none run place short) count counts

    pub driving_all : (count : ℕ) → count ≡ length (steps_in (drop 5 run)) → count ≤ k → out ≡ flat (answers p choose rank calls s0) ++ drop (2 * count) out0
    driving_all count counts passed =
        let a : length calls ≡ length so.made + length (map call_of (still k)) = ap length so.split ∙ length-append so.made (map call_of (still k)) in
        let b : length (map call_of (still k)) ≡ length (still k) = length-map (still k) call_of in
        let size : length calls ≡ count = length-map (steps_in (drop 5 run)) call_of ∙ sym counts in
        driving_whole (empty_none (still k) (omega (arith, so.long))) count counts
