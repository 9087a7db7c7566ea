-- The bytes of tables are read as the tables, and refused as the tables are.
use Rattle.std.proofs.Common.{◌≡◌, ℕ, ◌+◌, ◌-◌, ◌*◌, ◌^◌, ◌<◌, ◌≤◌, List, ◌++◌, length, get_or, take, drop, Some, None, Ok, Option, sym, refl, ap, ◌∙◌, arith, pow_mono}
use Rattle.std.proofs.lemmas.List.{append_assoc, drop_at, length-append, take_at}
use Rattle.std.proofs.lemmas.Bool.{le-leb}
use Rattle.std.specs.List.{between}
use Rattle.board.specs.declared.refusal.PlanRefusal.{PlanRefusal}
use Rattle.board.specs.Plans.{Parts, count_tests, number_tests, set_tests, plan_tests, planned}
use Rattle.board.specs.Refusing.{or_else, first, unless}
use Rattle.board.proofs.Planning.{counts_in_range, or_else_none, sets_known}
use Rattle.board.proofs.Refusing.{first_append, found_nothing}
use Rattle.formats.specs.Decode.{Legal, carried, parts_at, head_tests, byte_tests, decode, with_rest}
use Rattle.formats.specs.Wire.{encode, head, size, twos, words}
use Rattle.formats.proofs.Parts.{same_parts}
use Rattle.formats.proofs.Stages.{by_stages, needs_yes}
use Rattle.formats.proofs.Words.{joined, length_twos, words_twos}

between_at :
    (pre mid post : List ℕ) (i j : ℕ) → length pre ≡ i → length mid ≡ j - i → between i j (pre ++ (mid ++ post)) ≡ mid
between_at pre mid post i j a b = ap (take (j - i)) (drop_at pre (mid ++ post) i a) ∙ take_at mid post (j - i) b

or_carried : (a b : Option PlanRefusal) → or_else (carried a) (carried b) ≡ carried (or_else a b)
or_carried (Some r) b = refl
or_carried None b = refl

unless_carried : (found : Option PlanRefusal) (p : Parts) (rest : List ℕ) → unless (carried found) (p, rest) ≡ with_rest rest (unless found p)
unless_carried (Some r) p rest = refl
unless_carried None p rest = refl

module _ (p : Parts) where
  abbrev t : ℕ
  t = length p.priorities

  abbrev l : ℕ
  l = length p.levels

  abbrev n : ℕ
  n = length p.wakes

  pub length_encode : length (encode p) ≡ size t l n
  length_encode =
      let w = length_twos p.wakes in
      let a = length-append p.priorities (p.levels ++ twos p.wakes) in
      let b = length-append p.levels (twos p.wakes) in
      omega arith

  module _ (start : p.start < 65536) (favoured : p.favoured < 65536) (wakes : (k : ℕ) → get_or p.wakes k 0 < 65536) (rest : List ℕ) where
    abbrev bs : List ℕ
    bs = encode p ++ rest

    length_bs : length bs ≡ size t l n + length rest
    length_bs = length-append (encode p) rest ∙ ap (λ k. k + length rest) length_encode

    parts_back : parts_at bs ≡ p
    parts_back =
        let P : List ℕ = p.priorities in
        let Q : List ℕ = p.levels in
        let W : List ℕ = twos p.wakes in
        let lw : length W ≡ 2 * n = length_twos p.wakes in
        let f1 : bs ≡ head p ++ (P ++ ((Q ++ W) ++ rest)) = ap (λ z. head p ++ z) (append_assoc P (Q ++ W) rest) in
        let f2 : bs ≡ (head p ++ P) ++ (Q ++ (W ++ rest)) =
        f1 ∙ (sym (append_assoc (head p) P ((Q ++ W) ++ rest)) ∙ ap (λ z. (head p ++ P) ++ z) (append_assoc Q W rest)) in
        let f3 : bs ≡ ((head p ++ P) ++ Q) ++ (W ++ rest) = f2 ∙ sym (append_assoc (head p ++ P) Q (W ++ rest)) in
        let l1 : length (head p ++ P) ≡ 14 + t = length-append (head p) P ∙ omega arith in
        let l2 : length ((head p ++ P) ++ Q) ≡ 14 + t + l = length-append (head p ++ P) Q ∙ omega arith in
        let ps : between 14 (14 + t) bs ≡ P =
        ap (between 14 (14 + t)) f1 ∙ between_at (head p) P _ 14 (14 + t) refl (omega arith) in
        let ls : between (14 + t) (14 + t + l) bs ≡ Q =
        ap (between (14 + t) (14 + t + l)) f2 ∙ between_at (head p ++ P) Q _ (14 + t) (14 + t + l) l1 (omega arith) in
        let ws : between (14 + t + l) (size t l n) bs ≡ W =
        ap (between (14 + t + l) (size t l n)) f3
        ∙ between_at ((head p ++ P) ++ Q) W _ (14 + t + l) (size t l n) l2 (omega arith) in
        same_parts p.policy p.rule (joined p.start start) (joined p.favoured favoured) ps ls
        (ap words ws ∙ words_twos p.wakes wakes)

    head_passed : first (head_tests bs) ≡ None
    head_passed = ap (λ o. or_else o None) (needs_yes _ _ (le-leb 14 (length bs) (omega (arith, length_bs))))

    tests_back : first (byte_tests bs) ≡ carried (first (plan_tests p))
    tests_back =
        let C = count_tests t l n in
        let N = number_tests p.policy p.rule in
        let S = set_tests p in
        by_stages bs head_passed refl refl (needs_yes _ _ (le-leb (size t l n) (length bs) (omega (arith, length_bs))))
        (ap (λ q. first (set_tests q)) parts_back)
        ∙ (ap (or_else (carried (first C))) (or_carried (first N) (first S))
        ∙ (or_carried (first C) (or_else (first N) (first S))
        ∙ ap carried (ap (or_else (first C)) (sym (first_append N S)) ∙ sym (first_append C (N ++ S)))))

    pub read_back : decode (encode p ++ rest) ≡ with_rest rest (planned p)
    read_back =
        let after : drop (size t l n) bs ≡ rest = drop_at (encode p) rest (size t l n) length_encode in
        let same : ◌≡◌ {A = Parts × List ℕ} (parts_at bs, drop (size t l n) bs) (p, rest) =
        ap (λ q. (q, drop (size t l n) bs)) parts_back ∙ ap (λ r. (p, r)) after in
        ap (λ o. unless o (parts_at bs, drop (size t l n) bs)) tests_back
        ∙ (ap (unless (carried (first (plan_tests p)))) same ∙ unless_carried (first (plan_tests p)) p rest)

pub legal_read_back : (p : Parts) → Legal p → (rest : List ℕ) → decode (encode p ++ rest) ≡ Ok (p, rest)
legal_read_back p legal rest =
    let C = count_tests (length p.priorities) (length p.levels) (length p.wakes) in
    let N = number_tests p.policy p.rule in
    let passed : first (plan_tests p) ≡ None = found_nothing p (first (plan_tests p)) (sym legal) in
    let a = or_else_none (first C) _ (sym (first_append C (N ++ set_tests p)) ∙ passed) in
    let b = or_else_none (first N) _ (sym (first_append N (set_tests p)) ∙ a.1) in
    let few = counts_in_range (length p.priorities) (length p.levels) (length p.wakes) a.0 in
    let known = sets_known p b.1 in
    let small : 2 ^ length p.priorities ≤ 2 ^ 16 = pow_mono few.1 in
    read_back p (omega arith) (omega arith) (λ k. omega (arith, known.2 k)) rest ∙ ap (with_rest rest) legal
