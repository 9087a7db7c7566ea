-- Bytes that read as a plan are that plan's form, followed by the rest.
use Rattle.std.proofs.Common.{◌≡◌, ℕ, zero, suc, ◌+◌, ◌-◌, ◌*◌, ◌/◌, ◌%◌, ◌<◌, ◌≤◌, Bool, ◌&&◌, eqb, leb, List, [], ◌∷◌, ◌++◌, length, get_or, take, drop, None, Ok, sym, ap, ◌∙◌, ⊎_elim, add-zero, arith}
use Rattle.std.proofs.lemmas.List.Edits.{length-between}
use Rattle.std.proofs.lemmas.List.{append_assoc, drop-drop, drop_more, get_or-drop, get_or-take, get_or_past, length-take, take-append-drop}
use Rattle.std.proofs.lemmas.Bool.{and_parts, cases_lt, eqb-true, leb-true}
use Rattle.std.specs.List.{between}
use Rattle.board.specs.Plans.{Parts}
use Rattle.board.specs.Refusing.{needs, first}
use Rattle.board.proofs.Refusing.{answered, found_nothing, needs_met}
use Rattle.board.proofs.Planning.{or_else_none}
use Rattle.formats.specs.declared.fault.PlanFault.TheVariants.{Short, Mark, Version}
use Rattle.formats.specs.Decode.{Bytes, carried, size_at, parts_at, head_tests, byte_tests, decode}
use Rattle.formats.specs.Wire.{encode, head, twos, words, word}
use Rattle.formats.proofs.Stages.{stages, counts, numbers, long}
use Rattle.formats.proofs.Words.{length_words, low_byte, high_byte, twos_words}

-- n elements from the place i on
abbrev span : ℕ → ℕ → List ℕ → List ℕ
span i zero bs = []
span i (suc n) bs = get_or bs i 0 ∷ span (suc i) n bs

span_drop : (n i : ℕ) (bs : List ℕ) → i + n ≤ length bs → drop i bs ≡ span i n bs ++ drop (i + n) bs
span_drop zero i bs h = ap (λ k. drop k bs) (sym (add-zero i))
span_drop (suc n) i bs h =
    let a : drop i bs ≡ get_or bs i 0 ∷ drop (i + 1) bs = drop_more bs i 0 (omega arith) in
    let b : drop (suc i) bs ≡ span (suc i) n bs ++ drop (suc i + n) bs = span_drop n (suc i) bs (omega arith) in
    let s : i + 1 ≡ suc i = omega arith in
    let u : suc i + n ≡ i + suc n = omega arith in
    a ∙ ap (λ z. get_or bs i 0 ∷ z) (ap (λ k. drop k bs) s ∙ (b ∙ ap (λ k. span (suc i) n bs ++ drop k bs) u))

between_drop : (i j : ℕ) (bs : List ℕ) → i ≤ j → between i j bs ++ drop j bs ≡ drop i bs
between_drop i j bs h =
    let e : i + (j - i) ≡ j = omega arith in
    let d : drop (j - i) (drop i bs) ≡ drop j bs = drop-drop (j - i) i bs ∙ ap (λ k. drop k bs) e in
    ap (λ z. between i j bs ++ z) (sym d) ∙ take-append-drop (j - i) (drop i bs)

module _ (bs : List ℕ) (bytes : Bytes bs) where
  bytes_between : (i j k : ℕ) → get_or (between i j bs) k 0 < 256
  bytes_between i j k =
      ⊎_elim
      (λ (h : k < j - i). rw (get_or-take (j - i) (drop i bs) k 0 h, get_or-drop i bs k 0) (bytes (i + k)))
      (λ (h : j - i ≤ k). rw (get_or_past (take (j - i) (drop i bs)) k 0 (simp length-take (omega arith))) (omega arith))
      (cases_lt k (j - i))

  module _ (whole : size_at bs ≤ length bs) where
    abbrev t : ℕ
    t = get_or bs 5 0

    abbrev l : ℕ
    l = get_or bs 6 0

    abbrev n : ℕ
    n = get_or bs 7 0

    priorities_long : length (between 14 (14 + t) bs) ≡ t
    priorities_long = length-between bs 14 (14 + t) (omega arith) ∙ omega arith

    levels_long : length (between (14 + t) (14 + t + l) bs) ≡ l
    levels_long = length-between bs (14 + t) (14 + t + l) (omega arith) ∙ omega arith

    wakes_long : length (between (14 + t + l) (size_at bs) bs) ≡ 2 * n
    wakes_long = length-between bs (14 + t + l) (size_at bs) (omega arith) ∙ omega arith

    -- the tables are the bytes from 14 on
    tables_back :
        ((parts_at bs).priorities ++ ((parts_at bs).levels ++ twos (parts_at bs).wakes)) ++ drop (size_at bs) bs ≡ drop 14 bs
    tables_back =
        let P : List ℕ = between 14 (14 + t) bs in
        let Q : List ℕ = between (14 + t) (14 + t + l) bs in
        let W : List ℕ = between (14 + t + l) (size_at bs) bs in
        let D : List ℕ = drop (size_at bs) bs in
        let w : twos (words W) ≡ W = twos_words W n wakes_long (bytes_between (14 + t + l) (size_at bs)) in
        let a1 : (P ++ (Q ++ W)) ++ D ≡ P ++ (Q ++ (W ++ D)) =
        append_assoc P (Q ++ W) D ∙ ap (λ x. P ++ x) (append_assoc Q W D) in
        let b1 : W ++ D ≡ drop (14 + t + l) bs = between_drop (14 + t + l) (size_at bs) bs (omega arith) in
        let b2 : Q ++ drop (14 + t + l) bs ≡ drop (14 + t) bs = between_drop (14 + t) (14 + t + l) bs (omega arith) in
        let b3 : P ++ drop (14 + t) bs ≡ drop 14 bs = between_drop 14 (14 + t) bs (omega arith) in
        ap (λ x. (P ++ (Q ++ x)) ++ D) w ∙ (a1 ∙ (ap (λ x. P ++ (Q ++ x)) b1 ∙ (ap (λ x. P ++ x) b2 ∙ b3)))

    module _ (passed : first (head_tests bs) ≡ None) where
      abbrev marked : Bool
      marked = eqb (get_or bs 0 0) 80 && (eqb (get_or bs 1 0) 76 && eqb (get_or bs 2 0) 78)

      -- the head is the first fourteen bytes
      head_back : head (parts_at bs) ≡ span 0 14 bs
      head_back =
          let a = or_else_none (needs (leb 14 (length bs)) (Short (length bs))) _ passed in
          let b = or_else_none (needs marked Mark) _ a.1 in
          let v = or_else_none (needs (eqb (word bs 3) 1) Version) _ b.1 in
          let m = and_parts (eqb (get_or bs 0 0) 80) _ (needs_met Mark marked b.0) in
          let m2 = and_parts (eqb (get_or bs 1 0) 76) (eqb (get_or bs 2 0) 78) m.1 in
          let b0 : get_or bs 0 0 ≡ 80 = eqb-true _ _ m.0 in
          let b1 : get_or bs 1 0 ≡ 76 = eqb-true _ _ m2.0 in
          let b2 : get_or bs 2 0 ≡ 78 = eqb-true _ _ m2.1 in
          let ver : word bs 3 ≡ 1 = eqb-true _ _ (needs_met Version (eqb (word bs 3) 1) v.0) in
          let b3 : get_or bs 3 0 ≡ 1 = omega (arith, ver, bytes 3, bytes 4) in
          let b4 : get_or bs 4 0 ≡ 0 = omega (arith, ver, bytes 3, bytes 4) in
          let b5 : length (between 14 (14 + t) bs) ≡ get_or bs 5 0 = priorities_long in
          let b6 : length (between (14 + t) (14 + t + l) bs) ≡ get_or bs 6 0 = levels_long in
          let b7 : length (words (between (14 + t + l) (size_at bs) bs)) ≡ get_or bs 7 0 = length_words _ n wakes_long in
          let s0 : word bs 10 % 256 ≡ get_or bs 10 0 = low_byte _ _ (bytes 10) in
          let s1 : word bs 10 / 256 % 256 ≡ get_or bs 11 0 = high_byte _ _ (bytes 10) (bytes 11) in
          let f0 : word bs 12 % 256 ≡ get_or bs 12 0 = low_byte _ _ (bytes 12) in
          let f1 : word bs 12 / 256 % 256 ≡ get_or bs 13 0 = high_byte _ _ (bytes 12) (bytes 13) in
          cc

      form_back : encode (parts_at bs) ++ drop (size_at bs) bs ≡ bs
      form_back =
          let a = or_else_none (needs (leb 14 (length bs)) (Short (length bs))) _ passed in
          let room : 14 ≤ length bs = leb-true 14 (length bs) (needs_met (Short (length bs)) (leb 14 (length bs)) a.0) in
          let T : List ℕ = (parts_at bs).priorities ++ ((parts_at bs).levels ++ twos (parts_at bs).wakes) in
          append_assoc (head (parts_at bs)) T (drop (size_at bs) bs)
          ∙ (ap (λ z. head (parts_at bs) ++ z) tables_back
          ∙ (ap (λ z. z ++ drop 14 bs) head_back ∙ sym (span_drop 14 0 bs room)))

  pub one_form : (p : Parts) (rest : List ℕ) → decode bs ≡ Ok (p, rest) → encode p ++ rest ≡ bs
  one_form p rest e =
      let passed = found_nothing _ (first (byte_tests bs)) (sym e) in
      let read = answered _ (first (byte_tests bs)) (sym e) in
      let a = or_else_none (first (head_tests bs)) _ (sym (stages bs) ∙ passed) in
      let b = or_else_none (carried (first (counts bs))) _ a.1 in
      let c = or_else_none (carried (first (numbers bs))) _ b.1 in
      let d = or_else_none (long bs) _ c.1 in
      let whole : size_at bs ≤ length bs =
      leb-true (size_at bs) (length bs) (needs_met (Short (length bs)) (leb (size_at bs) (length bs)) d.0) in
      let parts : p ≡ parts_at bs = ap (λ (x : Parts × List ℕ). x.0) read in
      let after : rest ≡ drop (size_at bs) bs = ap (λ (x : Parts × List ℕ). x.1) read in
      ap (λ x. encode x ++ rest) parts ∙ (ap (λ x. encode (parts_at bs) ++ x) after ∙ form_back whole a.0)
