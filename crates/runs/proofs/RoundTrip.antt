-- What is written reads back.
use Rattle.std.proofs.Common.{◌≡◌, ℕ, suc, ◌+◌, ◌-◌, ◌*◌, ◌/◌, ◌%◌, ◌<◌, ◌≤◌, true, ◌&&◌, eqb, leb, List, [], ◌∷◌, ◌++◌, map, length, get_or, take, drop, Some, None, Ok, Err, Option, Result, sym, refl, ap, ◌∙◌, arith}
use Rattle.std.proofs.lemmas.List.Edits.{paste_all}
use Rattle.std.proofs.lemmas.List.{take_at}
use Rattle.std.proofs.lemmas.Bool.{le-leb, lt-leb}
use Rattle.board.specs.Refusing.{ComesFirst, first, needs, or_else, unless}
use Rattle.board.proofs.Refusing.{first_append, first_comes_first}
use Rattle.formats.specs.Wire.{word}
use Rattle.formats.specs.Written.{placed}
use Rattle.formats.proofs.Placing.{placed_more}
use Rattle.formats.proofs.Words.{joined}
use Rattle.runs.specs.declared.fault.RunFault.{RunFault}
use Rattle.runs.specs.declared.fault.RunFault.TheVariants.{Buffer, Many}
use Rattle.runs.specs.declared.step.Step.{Step}
use Rattle.runs.specs.Runs.{decode_run, encode_run, fours, opening_tests, run_head, run_tests, steps_in, steps_tests}
use Rattle.runs.specs.Steps.{call_of}
use Rattle.runs.specs.Written.{TwoByteSets, left_run, run_size, write_tests, wrote_run}
use Rattle.runs.proofs.Counts.{run_found}
use Rattle.runs.proofs.Writing.{length_fours}

-- four bytes give their step back
pub steps_fours : (steps : List Step) → TwoByteSets steps → steps_in (fours steps) ≡ steps
steps_fours [] sized = refl
steps_fours (s ∷ steps) sized =
    let here : s.set % 256 + s.set / 256 % 256 * 256 ≡ s.set = joined s.set (sized 0 (omega arith)) in
    let rest : steps_in (fours steps) ≡ steps = steps_fours steps (λ k l. sized (suc k) (omega arith)) in
    ap (λ n. record { code = s.code; number = s.number; set = n } ∷ steps_in (fours steps)) here ∙ ap (λ (l : List Step). s ∷ l) rest

pub length_run : (steps : List Step) → length (encode_run steps) ≡ run_size steps
length_run steps = let e = length_fours steps in omega arith

opening_passed :
    (bs : List ℕ) → leb 5 (length bs) ≡ true → (eqb (get_or bs 0 0) 82 && (eqb (get_or bs 1 0) 85 && eqb (get_or bs 2 0) 78)) ≡ true → eqb (word bs 3) 1 ≡ true →
    eqb ((length bs - 5) % 4) 0 ≡ true → leb (length bs) 262145 ≡ true → first (opening_tests bs) ≡ None
opening_passed bs a b c d e = rw (a, b, c, d, e) refl

pub opening_written : (steps : List Step) → length steps ≤ 65535 → first (opening_tests (encode_run steps)) ≡ None
opening_written steps few =
    let bs = encode_run steps in
    let long : length bs ≡ 5 + 4 * length steps = length_run steps in
    let whole : (length bs - 5) % 4 ≡ 0 = omega arith in
    opening_passed bs (le-leb 5 (length bs) (omega arith)) refl refl (ap (λ n. eqb n 0) whole) (le-leb (length bs) 262145 (omega arith))

pub read_back : (steps : List Step) → length steps ≤ 65535 → first (steps_tests 5 steps) ≡ None → TwoByteSets steps → decode_run (encode_run steps) ≡ Ok (map call_of steps)
read_back steps few good sized =
    let same : steps_in (fours steps) ≡ steps = steps_fours steps sized in
    let none : first (run_tests (encode_run steps)) ≡ None =
    run_found (encode_run steps)
    ∙ ap (λ o. or_else o (first (steps_tests 5 (steps_in (fours steps))))) (opening_written steps few)
    ∙ ap (λ (l : List Step). first (steps_tests 5 l)) same
    ∙ good in
    ap (λ o. unless o (map call_of (steps_in (fours steps)))) none ∙ ap (λ (l : List Step). Ok (map call_of l)) same

-- what the writer's tests find
module _ (steps : List Step) (out : List ℕ) where
  abbrev room : Option RunFault
  room = needs (leb (run_size steps) (length out)) (Buffer (length out))

  write_found : length steps ≤ 65535 → first (write_tests steps out) ≡ or_else (first (steps_tests 5 steps)) (or_else room None)
  write_found few =
      ap (λ b. or_else (needs b Many) (first (steps_tests 5 steps ++ (room ∷ [])))) (le-leb (length steps) 65535 few) ∙ first_append (steps_tests 5 steps) (room ∷ [])

  pub steps_refused : (f : RunFault) → length steps ≤ 65535 → first (steps_tests 5 steps) ≡ Some f → first (write_tests steps out) ≡ Some f
  steps_refused f few bad = write_found few ∙ ap (λ o. or_else o (or_else room None)) bad

  module _ (few : length steps ≤ 65535) (good : first (steps_tests 5 steps) ≡ None) where
    pub buffer_refused : length out < run_size steps → first (write_tests steps out) ≡ Some (Buffer (length out))
    buffer_refused short =
        write_found few
        ∙ ap (λ o. or_else o (or_else room None)) good
        ∙ ap (λ b. or_else (needs b (Buffer (length out))) None) (lt-leb (run_size steps) (length out) short)

    pub none_refused : run_size steps ≤ length out → first (write_tests steps out) ≡ None
    none_refused fits =
        write_found few
        ∙ ap (λ o. or_else o (or_else room None)) good
        ∙ ap (λ b. or_else (needs b (Buffer (length out))) None) (le-leb (run_size steps) (length out) fits)

  pub record RefusedWrite (f : RunFault) : Type 0 where
    pub answer : Err f ≡ wrote_run steps out
    pub buffer : out ≡ left_run (wrote_run steps out) steps out
    pub first_found : ComesFirst (write_tests steps out) f

  pub refusing : (f : RunFault) → first (write_tests steps out) ≡ Some f → RefusedWrite f
  refusing f found =
      let is : Err f ≡ wrote_run steps out = sym (ap (λ o. unless o (run_size steps)) found) in
      record { answer = is; buffer = ap (λ (r : Result ℕ RunFault). left_run r steps out) is; first_found = first_comes_first (write_tests steps out) f found }

  -- the head, and then the steps
  module _ (v1 v2 : List ℕ) (e1 : v1 ≡ placed out 0 run_head) (e2 : v2 ≡ placed v1 5 (fours steps)) (few : length steps ≤ 65535) (good : first (steps_tests 5 steps) ≡ None)
      (sized : TwoByteSets steps) (fits : run_size steps ≤ length out) where
    put_whole : v2 ≡ encode_run steps ++ drop (run_size steps) out
    put_whole =
        let both : v2 ≡ placed out 0 (encode_run steps) =
        e2 ∙ ap (λ z. placed z 5 (fours steps)) e1 ∙ placed_more out 0 run_head (fours steps) 5 (omega arith) refl in
        let size : 0 + length (encode_run steps) ≡ run_size steps = omega (arith, length_run steps) in
        both ∙ paste_all out 0 (encode_run steps) (length (encode_run steps)) refl ∙ ap (λ k. encode_run steps ++ drop k out) size

    pub record WrittenRun : Type 0 where
      pub answer : Ok (run_size steps) ≡ wrote_run steps out
      pub buffer : v2 ≡ left_run (wrote_run steps out) steps out
      pub reads_back : decode_run (take (run_size steps) v2) ≡ Ok (map call_of steps)

    pub written_run : WrittenRun
    written_run =
        let is : Ok (run_size steps) ≡ wrote_run steps out = sym (ap (λ o. unless o (run_size steps)) (none_refused few good fits)) in
        record {
          answer = is;
          buffer = put_whole ∙ ap (λ (r : Result ℕ RunFault). left_run r steps out) is;
          reads_back =
              ap (λ (b : List ℕ). decode_run (take (run_size steps) b)) put_whole
              ∙ ap decode_run (take_at (encode_run steps) (drop (run_size steps) out) (run_size steps) (length_run steps))
              ∙ read_back steps few good sized;
        }
