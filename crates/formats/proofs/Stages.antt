-- Reading a plan, stage by stage.
use Rattle.std.proofs.Common.{◌≡◌, ℕ, ◌+◌, ◌*◌, ◌≤◌, Bool, true, leb, List, [], ◌∷◌, ◌++◌, map, length, get_or, drop, Some, None, Ok, Err, Option, Result, sym, refl, ap, ◌∙◌, arith}
use Rattle.std.proofs.lemmas.List.Edits.{length-between}
use Rattle.std.proofs.lemmas.Bool.{le-leb}
use Rattle.std.specs.List.{between}
use Rattle.board.specs.declared.refusal.PlanRefusal.{PlanRefusal}
use Rattle.board.specs.Plans.{Parts, count_tests, number_tests, set_tests, planned}
use Rattle.board.specs.Refusing.{needs, or_else, first, unless, checked}
use Rattle.board.proofs.Planning.{or_else_none, planned_by_sets}
use Rattle.board.proofs.Refusing.{first_append, all_passed, answered, first_failed, found_nothing, found_this}
use Rattle.formats.specs.declared.fault.PlanFault.{PlanFault}
use Rattle.formats.specs.declared.fault.PlanFault.TheVariants.{Short, Refused}
use Rattle.formats.specs.Decode.{carried, size_at, parts_at, head_tests, byte_tests, decode}
use Rattle.formats.specs.Wire.{words}
use Rattle.formats.proofs.Words.{length_words}

or_carried : (a b : Option PlanRefusal) → carried (or_else a b) ≡ or_else (carried a) (carried b)
or_carried (Some r) b = refl
or_carried None b = refl

first_carried : (tests : List (Option PlanRefusal)) → first (map carried tests) ≡ carried (first tests)
first_carried [] = refl
first_carried (t ∷ tests) = ap (or_else (carried t)) (first_carried tests) ∙ sym (or_carried t (first tests))

pub needs_yes : {E : Type 0} (e : E) (b : Bool) → b ≡ true → needs b e ≡ None
needs_yes e b h = ap (λ v. needs v e) h

module _ (bs : List ℕ) where
  abbrev pub counts : List (Option PlanRefusal)
  counts = count_tests (get_or bs 5 0) (get_or bs 6 0) (get_or bs 7 0)

  abbrev pub numbers : List (Option PlanRefusal)
  numbers = number_tests (get_or bs 8 0) (get_or bs 9 0)

  abbrev pub long : Option PlanFault
  long = needs (leb (size_at bs) (length bs)) (Short (length bs))

  abbrev pub sets : List (Option PlanRefusal)
  sets = set_tests (parts_at bs)

  pub stages :
      first (byte_tests bs)
      ≡ or_else (first (head_tests bs))
      (or_else (carried (first counts)) (or_else (carried (first numbers)) (or_else long (carried (first sets)))))
  stages =
      let d = long ∷ map carried sets in
      let c = map carried numbers ++ d in
      first_append (head_tests bs) (map carried counts ++ c)
      ∙ ap (or_else (first (head_tests bs)))
      (first_append (map carried counts) c
      ∙ (ap (λ x. or_else x (first c)) (first_carried counts)
      ∙ ap (or_else (carried (first counts)))
      (first_append (map carried numbers) d
      ∙ (ap (λ x. or_else x (first d)) (first_carried numbers)
      ∙ ap (λ x. or_else (carried (first numbers)) (or_else long x)) (first_carried sets)))))

  pub by_stages :
      {h l : Option PlanFault} {c n s : Option PlanRefusal} → first (head_tests bs) ≡ h → first counts ≡ c →
      first numbers ≡ n → long ≡ l → first sets ≡ s →
      first (byte_tests bs) ≡ or_else h (or_else (carried c) (or_else (carried n) (or_else l (carried s))))
  by_stages hh hc hn hl hs = rw (← hh, ← hc, ← hn, ← hl, ← hs) stages

  abbrev answer : Option PlanFault → Result (Parts × List ℕ) PlanFault
  answer found = unless found (parts_at bs, drop (size_at bs) bs)

  module _ {u : Unit {0}} (head : Ok u ≡ checked (head_tests bs)) where
    -- the counts and the numbers are tested together
    both_tests : first (counts ++ numbers) ≡ or_else (first counts) (first numbers)
    both_tests = first_append counts numbers

    by_both :
        {l : Option PlanFault} {s : Option PlanRefusal} {f : Option PlanRefusal} → first (counts ++ numbers) ≡ f → long ≡ l → first sets ≡ s →
        first (byte_tests bs) ≡ or_else (carried f) (or_else l (carried s))
    by_both {l} {s} {f} e hl hs =
        by_stages (all_passed (head_tests bs) head) refl refl hl hs
        ∙ (regroup (first counts) (first numbers) (or_else l (carried s))
        ∙ ap (λ x. or_else (carried x) (or_else l (carried s))) (sym both_tests ∙ e))
      where
        regroup : (a b : Option PlanRefusal) (c : Option PlanFault) → or_else (carried a) (or_else (carried b) c) ≡ or_else (carried (or_else a b)) c
        regroup (Some x) b c = refl
        regroup None b c = refl

    pub fault_in_numbers : {e : PlanRefusal} → Err e ≡ checked (counts ++ numbers) → Err (Refused e) ≡ decode bs
    fault_in_numbers h = sym (ap answer (by_both (first_failed (counts ++ numbers) h) refl refl))

    module _ {v : Unit {0}} (numbered : Ok v ≡ checked (counts ++ numbers)) where
      none_found : (first counts ≡ None) × (first numbers ≡ None)
      none_found = or_else_none (first counts) (first numbers) (sym both_tests ∙ all_passed (counts ++ numbers) numbered)

      module _ (whole : size_at bs ≤ length bs) where
        -- the counts are the lengths of the parts
        lengths :
            count_tests (length (parts_at bs).priorities) (length (parts_at bs).levels) (length (parts_at bs).wakes) ≡ counts
        lengths =
            let t = get_or bs 5 0 in
            let l = get_or bs 6 0 in
            let n = get_or bs 7 0 in
            let a : length (between 14 (14 + t) bs) ≡ t = length-between bs 14 (14 + t) (omega arith) ∙ omega arith in
            let b : length (between (14 + t) (14 + t + l) bs) ≡ l =
            length-between bs (14 + t) (14 + t + l) (omega arith) ∙ omega arith in
            let d : length (between (14 + t + l) (size_at bs) bs) ≡ 2 * n =
            length-between bs (14 + t + l) (size_at bs) (omega arith) ∙ omega arith in
            let e : length (words (between (14 + t + l) (size_at bs) bs)) ≡ n = length_words _ n d in
            ap (λ x. count_tests x (length (between (14 + t) (14 + t + l) bs)) (length (words (between (14 + t + l) (size_at bs) bs)))) a
            ∙ (ap (λ x. count_tests t x (length (words (between (14 + t + l) (size_at bs) bs)))) b ∙ ap (λ x. count_tests t l x) e)

        left_to_sets : planned (parts_at bs) ≡ unless (first sets) (parts_at bs)
        left_to_sets =
            planned_by_sets (parts_at bs) (ap first lengths ∙ none_found.0) none_found.1

        decoded : {s : Option PlanRefusal} → first sets ≡ s → decode bs ≡ answer (carried s)
        decoded h =
            ap answer
            (by_both (all_passed (counts ++ numbers) numbered) (needs_yes _ _ (le-leb (size_at bs) (length bs) whole)) h)

        pub fault_in_sets : {e : PlanRefusal} → Err e ≡ planned (parts_at bs) → Err (Refused e) ≡ decode bs
        fault_in_sets h = sym (decoded (found_this (parts_at bs) (first sets) (h ∙ left_to_sets)))

        pub read_whole : {p : Parts} → Ok p ≡ planned (parts_at bs) → Ok (p, drop (size_at bs) bs) ≡ decode bs
        read_whole {p} h =
            let planned_so = h ∙ left_to_sets in
            ap (λ x. Ok (x, drop (size_at bs) bs)) (answered (parts_at bs) (first sets) planned_so)
            ∙ sym (decoded (found_nothing (parts_at bs) (first sets) planned_so))
