-- Writing steps, one by one.
use Rattle.std.proofs.Common.{◌≡◌, ℕ, ◌+◌, ◌*◌, ◌/◌, ◌%◌, ◌<◌, ◌≤◌, List, [], ◌∷◌, ◌++◌, length, get_or, take, drop, Some, None, Err, sym, refl, ap, ◌∙◌, arith}
use Rattle.std.proofs.lemmas.List.{drop_more, length-take-le, take_more}
use Rattle.board.specs.Refusing.{checked, first, or_else, unless}
use Rattle.formats.specs.Written.{placed}
use Rattle.formats.proofs.Placing.{placed_more}
use Rattle.runs.specs.declared.fault.StepRefusal.{StepRefusal}
use Rattle.runs.specs.declared.step.Step.{Step}
use Rattle.runs.specs.Runs.{found_at, fours, refused_at, steps_tests}
use Rattle.runs.specs.Steps.{step_tests}

-- what is read where no step is
abbrev pub blank : Step
blank = record { code = 0; number = 0; set = 0 }

abbrev pub four : Step → List ℕ
four s = s.code ∷ s.number ∷ s.set % 256 ∷ s.set / 256 % 256 ∷ []

module _ (steps : List Step) (k : ℕ) (so_far : first (steps_tests 5 steps) ≡ first (steps_tests (5 + 4 * k) (drop k steps))) where
  abbrev this : Step
  this = get_or steps k blank

  unrolled : k < length steps → first (steps_tests 5 steps) ≡ or_else (found_at (5 + 4 * k) (first (step_tests this))) (first (steps_tests (5 + 4 * k + 4) (drop (k + 1) steps)))
  unrolled h = so_far ∙ ap (λ (l : List Step). first (steps_tests (5 + 4 * k) l)) (drop_more steps k blank h)

  pub check_more : k < length steps → first (step_tests this) ≡ None → first (steps_tests 5 steps) ≡ first (steps_tests (5 + 4 * (k + 1)) (drop (k + 1) steps))
  check_more h good =
      let next : 5 + 4 * k + 4 ≡ 5 + 4 * (k + 1) = omega arith in
      unrolled h
      ∙ ap (λ o. or_else (found_at (5 + 4 * k) o) (first (steps_tests (5 + 4 * k + 4) (drop (k + 1) steps)))) good
      ∙ ap (λ p. first (steps_tests p (drop (k + 1) steps))) next

  pub check_fault : (refusal : StepRefusal) → k < length steps → first (step_tests this) ≡ Some refusal → Err (refused_at (5 + 4 * k) refusal) ≡ checked (steps_tests 5 steps)
  check_fault refusal h bad =
      sym (ap (λ o. unless o (tt {0})) (unrolled h ∙ ap (λ o. or_else (found_at (5 + 4 * k) o) (first (steps_tests (5 + 4 * k + 4) (drop (k + 1) steps)))) bad))

pub length_fours : (steps : List Step) → length (fours steps) ≡ 4 * length steps
length_fours [] = refl
length_fours (s ∷ steps) = let e = length_fours steps in omega arith

fours_push : (steps : List Step) (s : Step) → fours (steps ++ (s ∷ [])) ≡ fours steps ++ four s
fours_push [] s = refl
fours_push (x ∷ steps) s = ap (λ l. x.code ∷ x.number ∷ x.set % 256 ∷ x.set / 256 % 256 ∷ l) (fours_push steps s)

module _ (o out : List ℕ) (steps : List Step) (k : ℕ) (so_far : out ≡ placed o 5 (fours (take k steps))) where
  pub put_more : (v part : List ℕ) → 5 + 4 * length steps ≤ length o → k < length steps → part ≡ four (get_or steps k blank) → v ≡ placed out (5 + 4 * k) part → v ≡ placed o 5 (fours (take (k + 1) steps))
  put_more v part fits h is e =
      let a : length (take k steps) ≡ k = length-take-le k steps (omega arith) in
      let b : length (fours (take k steps)) ≡ 4 * length (take k steps) = length_fours (take k steps) in
      let d = placed_more o 5 (fours (take k steps)) part (5 + 4 * k) (omega arith) (omega arith) in
      let f : fours (take (k + 1) steps) ≡ fours (take k steps) ++ part =
      ap fours (take_more steps k blank h) ∙ fours_push (take k steps) (get_or steps k blank) ∙ ap (λ z. fours (take k steps) ++ z) (sym is) in
      e ∙ ap (λ z. placed z (5 + 4 * k) part) so_far ∙ d ∙ ap (placed o 5) (sym f)
