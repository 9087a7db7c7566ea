-- What the answers in the buffer say.
use Rattle.std.proofs.Common.{◌≡◌, ℕ, ◌*◌, ◌<◌, ◌≤◌, List, [], ◌∷◌, ◌++◌, map, length, drop, Some, None, Ok, Err, Result, sym, refl, ap, ◌∙◌, subst, arith}
use Rattle.std.proofs.lemmas.List.{length-map}
use Rattle.std.proofs.lemmas.Bool.{cond-false, cond-true, le-ltb, lt-ltb}
use Rattle.board.specs.Plans.{Parts, planned}
use Rattle.board.specs.Planned.{plan_choice}
use Rattle.board.specs.Ranks.{plan_rank}
use Rattle.board.specs.Refusing.{first}
use Rattle.formats.specs.declared.fault.PlanFault.{PlanFault}
use Rattle.kernel.specs.declared.call.Call.{Call}
use Rattle.kernel.specs.Afterwards.{SoundHistory}
use Rattle.kernel.specs.Histories.{Answered, after, answers, told}
use Rattle.kernel.specs.Rules.{Chooses, Ranks}
use Rattle.kernel.specs.States.{start}
use Rattle.kernel.proofs.Listing.{told_after}
use Rattle.kernel.proofs.Owing.{KeepsPolicy, KeepsRanks}
use Rattle.kernel.proofs.Whole.{sound_where_led}
use Rattle.runs.specs.declared.fault.RunFault.{RunFault}
use Rattle.runs.specs.Runs.{decode_run, run_tests, steps_in}
use Rattle.runs.specs.Steps.{call_of}
use Rattle.runs.proofs.OneForm.{decoded_err, decoded_ok}
use Rattle.driver.specs.declared.fault.DriveFault.TheVariants.{Buffer, Run}
use Rattle.driver.specs.Driven.{SoundRun, flat, pairs, run_answered}

pairs_flat : (row : List (ℕ × ℕ)) (more : List ℕ) → pairs (flat row ++ more) ≡ row ++ pairs more
pairs_flat [] more = refl
pairs_flat (n ∷ row) more = ap (λ (l : List (ℕ × ℕ)). n ∷ l) (pairs_flat row more)

module _ (p : Parts) (choose : Chooses) (rank : Ranks) (run out : List ℕ) where
  abbrev steps_size : ℕ
  steps_size = length (steps_in (drop 5 run))

  abbrev calls : List Call
  calls = map call_of (steps_in (drop 5 run))

  pub refused_run : (f : RunFault) → first (run_tests run) ≡ Some f → Err (Run f) ≡ run_answered p choose rank (decode_run run) out
  refused_run f found = sym (ap (λ (r : Result (List Call) RunFault). run_answered p choose rank r out) (decoded_err run f found))

  module _ (good : first (run_tests run) ≡ None) where
    size : length calls ≡ steps_size
    size = length-map (steps_in (drop 5 run)) call_of

    pub refused_buffer : length out < 2 * steps_size → Err (Buffer (length out)) ≡ run_answered p choose rank (decode_run run) out
    refused_buffer short =
        sym (ap (λ (r : Result (List Call) RunFault). run_answered p choose rank r out) (decoded_ok run good) ∙ cond-true _ _ _ (lt-ltb (length out) (2 * length calls) (omega (arith, size))))

    module _ (later : List ℕ) (written : later ≡ flat (answers p choose rank calls (start p)) ++ drop (2 * steps_size) out) where
      pub answered_run : 2 * steps_size ≤ length out → Ok (steps_size, later) ≡ run_answered p choose rank (decode_run run) out
      answered_run fits =
          ap (λ (l : List ℕ). Ok (steps_size, l)) written
          ∙ ap (λ n. Ok (n, flat (answers p choose rank calls (start p)) ++ drop (2 * n) out)) (sym size)
          ∙ sym (ap (λ (r : Result (List Call) RunFault). run_answered p choose rank r out) (decoded_ok run good) ∙ cond-false _ _ _ (le-ltb (length out) (2 * length calls) (omega (arith, size))))

      pub sound_run : planned p ≡ Ok p → KeepsPolicy choose → KeepsRanks rank → (others : List Call) → decode_run run ≡ Ok others → SoundRun p choose rank others later
      sound_run legal policy ranks others is =
          let same : calls ≡ others = let e : Ok calls ≡ Ok others = sym (decoded_ok run good) ∙ is in cc in
          let row : pairs later ≡ answers p choose rank calls (start p) ++ pairs (drop (2 * steps_size) out) =
          ap pairs written ∙ pairs_flat (answers p choose rank calls (start p)) (drop (2 * steps_size) out) in
          let past : told calls (pairs later) [] ≡ (after p choose rank calls).past = told_after p choose rank calls (pairs later) (pairs (drop (2 * steps_size) out)) row in
          let here : SoundRun p choose rank calls later =
          subst (λ (l : List Answered). SoundHistory p choose rank (record { state = (after p choose rank calls).state; past = l })) (sym past)
          (sound_where_led p choose rank legal policy ranks (after p choose rank calls).state calls refl) in
          subst (λ (l : List Call). SoundRun p choose rank l later) same here

abbrev the_answer : {A E : Type 0} → A → Result A E → A
the_answer d (Ok a) = a
the_answer d (Err e) = d

-- the plan and the rest that some bytes read as are determined
pub of_same :
    (p : Parts) (rest later : List ℕ) (q : Parts) (others : List ℕ) → ◌≡◌ {A = Result (Parts × List ℕ) PlanFault} (Ok (p, rest)) (Ok (q, others)) →
    (calls : List Call) → decode_run others ≡ Ok calls → ((cs : List Call) → decode_run rest ≡ Ok cs → SoundRun p (plan_choice p) (plan_rank p) cs later) →
    SoundRun q (plan_choice q) (plan_rank q) calls later
of_same p rest later q others e cs is h =
    let both : (p, rest) ≡ (q, others) = ap (the_answer (p, rest)) e in
    let a : p ≡ q = ap (λ (x : Parts × List ℕ). x.0) both in
    let b : rest ≡ others = ap (λ (x : Parts × List ℕ). x.1) both in
    subst (λ (x : Parts). SoundRun x (plan_choice x) (plan_rank x) cs later) a (h cs (ap decode_run b ∙ is))
