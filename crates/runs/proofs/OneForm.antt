-- Bytes that read as calls are the form of these calls.
use Rattle.std.proofs.Common.{◌≡◌, ℕ, zero, suc, ◌+◌, ◌-◌, ◌*◌, ◌/◌, ◌%◌, ◌<◌, ◌≤◌, true, ◌&&◌, eqb, leb, List, [], ◌∷◌, ◌++◌, map, length, get_or, drop, IfErr, OnErr, OnOk, Some, None, Ok, Err, Option, Result, sym, refl, ap, ◌∙◌, subst, ⊎_elim, arith}
use Rattle.std.proofs.lemmas.List.{get_or-drop, length-drop, length-map}
use Rattle.std.proofs.lemmas.Bool.{and_parts, cases_eq, eqb-true, leb-true}
use Rattle.board.specs.Refusing.{ComesFirst, first, needs, or_else, unless}
use Rattle.board.proofs.Refusing.{first_comes_first, needs_met}
use Rattle.formats.specs.Decode.{Bytes}
use Rattle.formats.specs.Wire.{word}
use Rattle.formats.proofs.Words.{high_byte, low_byte}
use Rattle.kernel.specs.declared.call.Call.{Call}
use Rattle.kernel.specs.declared.call.Call.TheVariants.{Raise, Enter, Pend, Go, Signal, Block, Post, Leave, Mask, Unmask}
use Rattle.runs.specs.declared.fault.RunFault.{RunFault}
use Rattle.runs.specs.declared.fault.RunFault.TheVariants.{Short, Mark, Version, Cut, Many}
use Rattle.runs.specs.declared.fault.StepRefusal.{StepRefusal}
use Rattle.runs.specs.declared.fault.StepRefusal.TheVariants.{Code, Number, Low, High}
use Rattle.runs.specs.declared.step.Step.{Step}
use Rattle.runs.specs.Runs.{counted, decode_run, encode_run, form_of, found_at, fours, opening_tests, run_head, run_tests, step_of, steps_in, steps_tests}
use Rattle.runs.specs.Steps.{call_of, step_tests}
use Rattle.runs.proofs.Counts.{run_found}
use Rattle.runs.proofs.RoundTrip.{opening_written}

-- of two tests neither finds anything
pub neither : {E : Type 0} (a b : Option E) → or_else a b ≡ None → (a ≡ None) × (b ≡ None)
neither None b h = (refl, h)
neither (Some e) b h = absurd (cc)

abbrev step : ℕ → ℕ → ℕ → Step
step c n w = record { code = c; number = n; set = w }

abbrev low : ℕ → Option StepRefusal
low w = needs (eqb (w % 256) 0) Low

abbrev high : ℕ → Option StepRefusal
high w = needs (eqb (w / 256) 0) High

no_set : (w : ℕ) → or_else (low w) (or_else (high w) None) ≡ None → w ≡ 0
no_set w h =
    let l = neither (low w) (or_else (high w) None) h in
    let k = neither (high w) None l.1 in
    let a : w % 256 ≡ 0 = eqb-true _ _ (needs_met Low (eqb (w % 256) 0) l.0) in
    let b : w / 256 ≡ 0 = eqb-true _ _ (needs_met High (eqb (w / 256) 0) k.0) in
    omega arith

-- a step that passes is the one that stands for its call
module _ (n w : ℕ) where
  abbrev Back : ℕ → Type 0
  Back c = first (step_tests (step c n w)) ≡ None → step_of (call_of (step c n w)) ≡ step c n w

  no_number : (o : Option StepRefusal) → or_else (needs (eqb n 0) Number) o ≡ None → (n ≡ 0) × (o ≡ None)
  no_number o h = let l = neither (needs (eqb n 0) Number) o h in (eqb-true _ _ (needs_met Number (eqb n 0) l.0), l.1)

  -- of a call that uses a number
  numbered : (c : ℕ) → or_else (low w) (or_else (high w) None) ≡ None → step c n 0 ≡ step c n w
  numbered c h = ap (step c n) (sym (no_set w h))

  -- of a call that uses neither a number nor a set
  bare : (c : ℕ) → or_else (needs (eqb n 0) Number) (or_else (low w) (or_else (high w) None)) ≡ None → step c 0 0 ≡ step c n w
  bare c h =
      let l = no_number (or_else (low w) (or_else (high w) None)) h in
      ap (λ m. step c m 0) (sym l.0) ∙ numbered c l.1

  signal : or_else (needs (eqb n 0) Number) None ≡ None → step 5 0 w ≡ step 5 n w
  signal h = ap (λ m. step 5 m w) (sym (no_number None h).0)

  known_code : (c : ℕ) → first (step_tests (step c n w)) ≡ None → (1 ≤ c) × (c ≤ 10)
  known_code c h =
      let l = neither (needs (leb 1 c && leb c 10) Code) _ h in
      let k = and_parts (leb 1 c) (leb c 10) (needs_met Code (leb 1 c && leb c 10) l.0) in
      (leb-true 1 c k.0, leb-true c 10 k.1)

  pub step_back : (c : ℕ) → Back c
  step_back c h =
      let known = known_code c h in
      ⊎_elim (λ (e : c ≡ 1). subst Back (sym e) (numbered 1) h) (λ (n1 : c ≡ 1 → ⊥).
      ⊎_elim (λ (e : c ≡ 2). subst Back (sym e) (numbered 2) h) (λ (n2 : c ≡ 2 → ⊥).
      ⊎_elim (λ (e : c ≡ 3). subst Back (sym e) (bare 3) h) (λ (n3 : c ≡ 3 → ⊥).
      ⊎_elim (λ (e : c ≡ 4). subst Back (sym e) (bare 4) h) (λ (n4 : c ≡ 4 → ⊥).
      ⊎_elim (λ (e : c ≡ 5). subst Back (sym e) signal h) (λ (n5 : c ≡ 5 → ⊥).
      ⊎_elim (λ (e : c ≡ 6). subst Back (sym e) (bare 6) h) (λ (n6 : c ≡ 6 → ⊥).
      ⊎_elim (λ (e : c ≡ 7). subst Back (sym e) (numbered 7) h) (λ (n7 : c ≡ 7 → ⊥).
      ⊎_elim (λ (e : c ≡ 8). subst Back (sym e) (bare 8) h) (λ (n8 : c ≡ 8 → ⊥).
      ⊎_elim (λ (e : c ≡ 9). subst Back (sym e) (numbered 9) h) (λ (n9 : c ≡ 9 → ⊥).
      ⊎_elim (λ (e : c ≡ 10). subst Back (sym e) (numbered 10) h) (λ (n10 : c ≡ 10 → ⊥).
      absurd (omega arith)) (cases_eq c 10)) (cases_eq c 9)) (cases_eq c 8)) (cases_eq c 7)) (cases_eq c 6)) (cases_eq c 5)) (cases_eq c 4)) (cases_eq c 3)) (cases_eq c 2)) (cases_eq c 1)

pub steps_back : (place : ℕ) (steps : List Step) → first (steps_tests place steps) ≡ None → map step_of (map call_of steps) ≡ steps
steps_back place [] h = refl
steps_back place (s ∷ steps) h =
    let l = neither (found_at place (first (step_tests s))) (first (steps_tests (place + 4) steps)) h in
    let here : step_of (call_of s) ≡ s = step_back s.number s.set s.code (nothing_found place (first (step_tests s)) l.0) in
    let rest : map step_of (map call_of steps) ≡ steps = steps_back (place + 4) steps l.1 in
    ap (λ (x : Step). x ∷ map step_of (map call_of steps)) here ∙ ap (λ (x : List Step). s ∷ x) rest
  where
    nothing_found : (p : ℕ) (o : Option StepRefusal) → found_at p o ≡ None → o ≡ None
    nothing_found p None e = refl
    nothing_found p (Some r) e = absurd (cc)

-- steps give their four bytes back
pub fours_steps : (bs : List ℕ) (n : ℕ) → length bs ≡ 4 * n → ((i : ℕ) → get_or bs i 0 < 256) → fours (steps_in bs) ≡ bs
fours_steps [] n e bytes = refl
fours_steps (a ∷ []) n e bytes = absurd (omega arith)
fours_steps (a ∷ b ∷ []) n e bytes = absurd (omega arith)
fours_steps (a ∷ b ∷ c ∷ []) n e bytes = absurd (omega arith)
fours_steps (a ∷ b ∷ c ∷ d ∷ bs) zero e bytes = absurd (omega arith)
fours_steps (a ∷ b ∷ c ∷ d ∷ bs) (suc n) e bytes =
    let l : (c + d * 256) % 256 ≡ c = low_byte c d (bytes 2) in
    let m : (c + d * 256) / 256 % 256 ≡ d = high_byte c d (bytes 2) (bytes 3) in
    let r : fours (steps_in bs) ≡ bs = fours_steps bs n (omega arith) (λ i. bytes (suc (suc (suc (suc i))))) in
    cc

head_bytes :
    (bs : List ℕ) → 5 ≤ length bs → get_or bs 0 0 ≡ 82 → get_or bs 1 0 ≡ 85 → get_or bs 2 0 ≡ 78 → get_or bs 3 0 ≡ 1 → get_or bs 4 0 ≡ 0 →
    run_head ++ drop 5 bs ≡ bs
head_bytes [] h p q r s t = absurd (omega arith)
head_bytes (a ∷ []) h p q r s t = absurd (omega arith)
head_bytes (a ∷ b ∷ []) h p q r s t = absurd (omega arith)
head_bytes (a ∷ b ∷ c ∷ []) h p q r s t = absurd (omega arith)
head_bytes (a ∷ b ∷ c ∷ d ∷ []) h p q r s t = absurd (omega arith)
head_bytes (a ∷ b ∷ c ∷ d ∷ e ∷ bs) h p q r s t = cc

-- what passing the opening tests says
pub record Opening (bs : List ℕ) : Type 0 where
  pub long : 5 ≤ length bs
  pub mark : (eqb (get_or bs 0 0) 82 && (eqb (get_or bs 1 0) 85 && eqb (get_or bs 2 0) 78)) ≡ true
  pub version : word bs 3 ≡ 1
  pub whole : (length bs - 5) % 4 ≡ 0
  pub few : length bs ≤ 262145

pub opening : (bs : List ℕ) → first (opening_tests bs) ≡ None → Opening bs
opening bs h =
    let a = neither (needs (leb 5 (length bs)) (Short (length bs))) _ h in
    let b = neither (needs (eqb (get_or bs 0 0) 82 && (eqb (get_or bs 1 0) 85 && eqb (get_or bs 2 0) 78)) Mark) _ a.1 in
    let c = neither (needs (eqb (word bs 3) 1) Version) _ b.1 in
    let d = neither (needs (eqb ((length bs - 5) % 4) 0) (Cut (length bs - (length bs - 5) % 4))) _ c.1 in
    let e = neither (needs (leb (length bs) 262145) Many) _ d.1 in
    record {
      long = leb-true 5 (length bs) (needs_met _ _ a.0);
      mark = needs_met _ _ b.0;
      version = eqb-true (word bs 3) 1 (needs_met _ _ c.0);
      whole = eqb-true ((length bs - 5) % 4) 0 (needs_met _ _ d.0);
      few = leb-true (length bs) 262145 (needs_met _ _ e.0);
    }

module _ (bs : List ℕ) (bytes : Bytes bs) where
  abbrev steps : List Step
  steps = steps_in (drop 5 bs)

  unless_ok : {A E : Type 0} (found : Option E) (a b : A) → unless found a ≡ Ok b → (found ≡ None) × (b ≡ a)
  unless_ok None a b h = (refl, let e : b ≡ a = cc in e)
  unless_ok (Some e) a b h = absurd (cc)

  pub one_form : (calls : List Call) → decode_run bs ≡ Ok calls → form_of calls ≡ bs
  one_form calls h =
      let u = unless_ok (first (run_tests bs)) (map call_of steps) calls h in
      let v = neither (first (opening_tests bs)) (first (steps_tests 5 steps)) (sym (run_found bs) ∙ u.0) in
      let o = opening bs v.0 in
      let marks = and_parts (eqb (get_or bs 0 0) 82) (eqb (get_or bs 1 0) 85 && eqb (get_or bs 2 0) 78) o.mark in
      let more = and_parts (eqb (get_or bs 1 0) 85) (eqb (get_or bs 2 0) 78) marks.1 in
      let b3 : get_or bs 3 0 < 256 = bytes 3 in
      let version : get_or bs 3 0 + get_or bs 4 0 * 256 ≡ 1 = o.version in
      let head : run_head ++ drop 5 bs ≡ bs =
      head_bytes bs o.long (eqb-true _ _ marks.0) (eqb-true _ _ more.0) (eqb-true _ _ more.1) (omega arith) (omega arith) in
      let long : length (drop 5 bs) ≡ 4 * ((length bs - 5) / 4) = length-drop 5 bs ∙ omega (arith, o.whole) in
      let same : fours steps ≡ drop 5 bs = fours_steps (drop 5 bs) ((length bs - 5) / 4) long (λ i. subst (λ b. b < 256) (sym (get_or-drop 5 bs i 0)) (bytes (5 + i))) in
      ap form_of u.1 ∙ ap encode_run (steps_back 5 steps v.1) ∙ ap (λ (l : List ℕ). run_head ++ l) same ∙ head

-- the form of calls passes every test
calls_pass : (place : ℕ) (calls : List Call) → first (steps_tests place (steps_in (fours (map step_of calls)))) ≡ None
calls_pass place [] = refl
calls_pass place (Raise i ∷ calls) = calls_pass (place + 4) calls
calls_pass place (Enter i ∷ calls) = calls_pass (place + 4) calls
calls_pass place (Pend ∷ calls) = calls_pass (place + 4) calls
calls_pass place (Go ∷ calls) = calls_pass (place + 4) calls
calls_pass place (Signal set ∷ calls) = calls_pass (place + 4) calls
calls_pass place (Block ∷ calls) = calls_pass (place + 4) calls
calls_pass place (Post e ∷ calls) = calls_pass (place + 4) calls
calls_pass place (Leave ∷ calls) = calls_pass (place + 4) calls
calls_pass place (Mask i ∷ calls) = calls_pass (place + 4) calls
calls_pass place (Unmask i ∷ calls) = calls_pass (place + 4) calls

pub form_passes : (calls : List Call) → length calls ≤ 65535 → first (run_tests (form_of calls)) ≡ None
form_passes calls few =
    let steps = map step_of calls in
    let same : length steps ≡ length calls = length-map calls step_of in
    run_found (encode_run steps)
    ∙ ap (λ o. or_else o (first (steps_tests 5 (steps_in (fours steps))))) (opening_written steps (omega arith))
    ∙ calls_pass 5 calls

pub no_form : (bs : List ℕ) (f : RunFault) → first (run_tests bs) ≡ Some f → (calls : List Call) → length calls ≤ 65535 → form_of calls ≡ bs → ⊥
no_form bs f found calls few is =
    let none : first (run_tests bs) ≡ None = ap (λ (b : List ℕ). first (run_tests b)) (sym is) ∙ form_passes calls few in
    cc

counted_err : (o : Option RunFault) (calls : List Call) (f : RunFault) → Err f ≡ counted (unless o calls) → o ≡ Some f
counted_err None calls f h = absurd (cc)
counted_err (Some g) calls f h = let e : g ≡ f = cc in ap Some e

pub counted_refused : (bs : List ℕ) (f : RunFault) → Err f ≡ counted (decode_run bs) → first (run_tests bs) ≡ Some f
counted_refused bs f h = counted_err (first (run_tests bs)) (map call_of (steps_in (drop 5 bs))) f h

-- what a refused run says
pub record RefusedRun (bs : List ℕ) (result : Result ℕ RunFault) : Type 0 where
  pub answer : result ≡ counted (decode_run bs)
  pub one_form : OnOk result ((calls : List Call) → decode_run bs ≡ Ok calls → form_of calls ≡ bs)
  pub found : IfErr result (λ fault. ComesFirst (run_tests bs) fault)
  pub none : OnErr result ((calls : List Call) → length calls ≤ 65535 → form_of calls ≡ bs → ⊥)

pub refused_run : (bs : List ℕ) (result : Result ℕ RunFault) (f : RunFault) → result ≡ Err f → Err f ≡ counted (decode_run bs) → RefusedRun bs result
refused_run bs result f is why =
    let found = counted_refused bs f why in
    subst (RefusedRun bs) (sym is) (record { answer = why; one_form = tt; found = first_comes_first (run_tests bs) f found; none = no_form bs f found })

counted_ok : (o : Option RunFault) (calls : List Call) (n : ℕ) → Ok n ≡ counted (unless o calls) → (o ≡ None) × (n ≡ length calls)
counted_ok None calls n h = (refl, let e : n ≡ length calls = cc in e)
counted_ok (Some f) calls n h = absurd (cc)

pub counted_accepted : (bs : List ℕ) (n : ℕ) → Ok n ≡ counted (decode_run bs) → (first (run_tests bs) ≡ None) × (n ≡ length (steps_in (drop 5 bs)))
counted_accepted bs n h =
    let k = counted_ok (first (run_tests bs)) (map call_of (steps_in (drop 5 bs))) n h in (k.0, k.1 ∙ length-map (steps_in (drop 5 bs)) call_of)

pub decoded_ok : (bs : List ℕ) → first (run_tests bs) ≡ None → decode_run bs ≡ Ok (map call_of (steps_in (drop 5 bs)))
decoded_ok bs none = ap (λ o. unless o (map call_of (steps_in (drop 5 bs)))) none

pub decoded_err : (bs : List ℕ) (f : RunFault) → first (run_tests bs) ≡ Some f → decode_run bs ≡ Err f
decoded_err bs f found = ap (λ o. unless o (map call_of (steps_in (drop 5 bs)))) found
