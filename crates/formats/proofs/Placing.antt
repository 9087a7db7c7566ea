-- Writing into a buffer, part by part.
use Rattle.std.proofs.Common.{◌≡◌, ℕ, ◌+◌, ◌-◌, ◌*◌, ◌/◌, ◌%◌, ◌<◌, ◌≤◌, List, [], ◌∷◌, ◌++◌, map, length, get_or, take, drop, Ok, Err, sym, refl, ap, ◌∙◌, arith}
use Rattle.std.proofs.lemmas.List.Edits.{paste_all, paste-paste}
use Rattle.std.proofs.lemmas.Slice.{put_mid-paste, drop-append-drop}
use lib.Seq.{paste}
use borrow.Rule.Slice.PartMut.{put_mid}
use Rattle.std.proofs.lemmas.List.{append_assoc, length-append, length-map, length-take-le, map_more, take_at}
use Rattle.std.proofs.lemmas.Bool.{cond-true, cond-false, lt-ltb, le-ltb}
use Rattle.numbers.specs.declared.number.TaskNo.{TaskNo}
use Rattle.numbers.specs.declared.set.Set.{Set}
use Rattle.board.specs.Plans.{Parts, bits_of}
use Rattle.formats.specs.declared.fault.PlanFault.TheVariants.{Buffer}
use Rattle.formats.specs.Wire.{encode, head, size, twos}
use Rattle.formats.specs.Written.{left, placed, wrote}
use Rattle.formats.proofs.RoundTrip.{length_encode}
use Rattle.formats.proofs.Words.{length_twos, twos_push}

-- two writes, one behind the other
pub placed_more :
    (o : List ℕ) (at : ℕ) (xs ys : List ℕ) (n : ℕ) → at ≤ length o → at + length xs ≡ n →
    placed (placed o at xs) n ys ≡ placed o at (xs ++ ys)
placed_more o at xs ys n h e =
    ap (λ k. placed (placed o at xs) k ys) (sym e)
    ∙ (paste-paste o at xs ys (length xs) (length ys) refl refl h ∙ ap (paste o at (xs ++ ys)) (sym (length-append xs ys)))

-- one more part behind the first n bytes
pub front_more :
    (o xs ys : List ℕ) (n k m e : ℕ) → length xs ≡ n → length ys ≡ m → m ≡ k → n + m ≡ e →
    put_mid n k (xs ++ drop n o) ys ≡ (xs ++ ys) ++ drop e o
front_more o xs ys n k m e front part room end =
    put_mid-paste n k (xs ++ drop n o) ys ys m refl room (sym part)
    ∙ (paste_all (xs ++ drop n o) n ys m (sym part)
    ∙ (ap (λ v. v ++ (ys ++ drop (n + m) (xs ++ drop n o))) (take_at xs (drop n o) n front)
    ∙ (ap (λ v. xs ++ (ys ++ v)) (drop-append-drop n o xs (n + m) (omega arith) front)
    ∙ (sym (append_assoc xs ys (drop (n + m) o)) ∙ ap (λ k. (xs ++ ys) ++ drop k o) end))))

-- a loop that writes sets
module _ (o : List ℕ) (sets : List (Set TaskNo)) (i : ℕ) where
  abbrev done : List ℕ
  done = map bits_of (take i sets)

  abbrev entry : Set TaskNo
  entry = get_or sets i (record { bits = 0; kind = record {} })

  pub put_sets_more :
      (out two : List ℕ) (w k : ℕ) → out ≡ twos done ++ drop (2 * i) o → i < length sets → w ≡ entry.bits →
      two ≡ (w % 256 ∷ w / 256 % 256 ∷ []) → 2 ≡ k →
      put_mid (2 * i) k out two ≡ twos (map bits_of (take (i + 1) sets)) ++ drop (2 * (i + 1)) o
  put_sets_more out two w k so_far low is bytes room =
      let a : length (take i sets) ≡ i = length-take-le i sets (omega arith) in
      let m : length done ≡ length (take i sets) = length-map (take i sets) bits_of in
      let b : length (twos done) ≡ 2 * length done = length_twos done in
      let pair : two ≡ (entry.bits % 256 ∷ entry.bits / 256 % 256 ∷ []) = bytes ∙ ap (λ x. x % 256 ∷ x / 256 % 256 ∷ []) is in
      ap (λ v. put_mid (2 * i) k v two) so_far
      ∙ (front_more o (twos done) two (2 * i) k 2 (2 * (i + 1)) (omega arith) (ap length bytes) room (omega arith)
      ∙ ap (λ v. v ++ drop (2 * (i + 1)) o)
      (ap (λ v. twos done ++ v) pair ∙ sym (ap twos (map_more bits_of sets i (record { bits = 0; kind = record {} }) low) ∙ twos_push done entry.bits)))

-- a buffer too short, and one that takes the plan
module _ (p : Parts) (o : List ℕ) where
  abbrev t : ℕ
  t = length p.priorities

  abbrev l : ℕ
  l = length p.levels

  abbrev n : ℕ
  n = length p.wakes

  pub record BufferTooShort : Type 0 where
    pub answer : Err (Buffer (length o)) ≡ wrote (encode p) o
    pub buffer : o ≡ left (encode p) o

  pub too_short : length o < size t l n → BufferTooShort
  too_short h =
      let e = length_encode p in
      let short = lt-ltb (length o) (length (encode p)) (omega arith) in
      record { answer = sym (cond-true _ _ _ short); buffer = sym (cond-true _ _ _ short) }

  -- the four parts, one behind the other
  module _ (a b c d : List ℕ) (tasks lines events : ℕ) (is_t : tasks ≡ t) (is_l : lines ≡ l) (is_n : events ≡ n)
      (is_a : a ≡ head p) (is_b : b ≡ p.priorities) (is_c : c ≡ p.levels) (is_d : d ≡ twos p.wakes) where
    abbrev levels_at : ℕ
    levels_at = 14 + tasks

    abbrev wakes_at : ℕ
    wakes_at = levels_at + lines

    abbrev end : ℕ
    end = wakes_at + 2 * events

    abbrev buffer : List ℕ
    buffer =
        put_mid wakes_at (end - wakes_at) (put_mid levels_at (wakes_at - levels_at) (put_mid 14 (levels_at - 14) (a ++ drop 14 o) b) c) d

    put_whole : buffer ≡ encode p ++ drop end o
    put_whole =
        let la : length a ≡ 14 = ap length is_a in
        let lb : length b ≡ tasks = ap length is_b ∙ sym is_t in
        let lc : length c ≡ lines = ap length is_c ∙ sym is_l in
        let ld : length d ≡ 2 * events = ap length is_d ∙ (length_twos p.wakes ∙ omega arith) in
        let lab : length (a ++ b) ≡ levels_at = length-append a b ∙ omega arith in
        let labc : length ((a ++ b) ++ c) ≡ wakes_at = length-append (a ++ b) c ∙ omega arith in
        let parts : a ++ (b ++ (c ++ d)) ≡ encode p = rw (is_a, is_b, is_c, is_d) refl in
        ap (λ v. put_mid wakes_at (end - wakes_at) (put_mid levels_at (wakes_at - levels_at) v c) d)
        (front_more o a b 14 (levels_at - 14) tasks levels_at la lb (omega arith) refl)
        ∙ (ap (λ v. put_mid wakes_at (end - wakes_at) v d) (front_more o (a ++ b) c levels_at (wakes_at - levels_at) lines wakes_at lab lc (omega arith) refl)
        ∙ (front_more o ((a ++ b) ++ c) d wakes_at (end - wakes_at) (2 * events) end labc ld (omega arith) refl
        ∙ ap (λ v. v ++ drop end o)
        (append_assoc (a ++ b) c d ∙ (append_assoc a b (c ++ d) ∙ parts))))

    pub record WrittenBuffer : Type 0 where
      pub answer : Ok end ≡ wrote (encode p) o
      pub buffer_left : buffer ≡ left (encode p) o
      pub bytes : buffer ≡ encode p ++ drop end o

    pub written : end ≤ length o → WrittenBuffer
    written fits =
        let e : end ≡ length (encode p) = omega (arith, length_encode p) in
        let long = le-ltb (length o) (length (encode p)) (omega arith) in
        record {
          answer = ap Ok e ∙ sym (cond-false _ _ _ long);
          buffer_left = put_whole ∙ (ap (λ k. encode p ++ drop k o) e ∙ sym (cond-false _ _ _ long));
          bytes = put_whole;
        }
