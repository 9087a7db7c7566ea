-- Numbers of two bytes.
use Rattle.std.proofs.Common.{◌≡◌, ℕ, zero, suc, ◌+◌, ◌*◌, ◌/◌, ◌%◌, ◌<◌, ◌≤◌, List, [], ◌∷◌, ◌++◌, map, length, get_or, take, sym, refl, ap, ◌∙◌, subst, ⊎_elim, add_comm, add-one, arith}
use Rattle.std.proofs.lemmas.Nat.{div-mul-add, mod-mul-add}
use Rattle.std.proofs.lemmas.Bool.{cases_lt}
use Rattle.std.proofs.lemmas.List.{ext_get_or, get_or-map, get_or-take, length-map, length-take-le}
use Rattle.std.specs.Array.{IsFromFnResultFrom}
use denote.Param.Members.{Mut, Called}
use Rattle.numbers.specs.declared.number.TaskNo.{TaskNo}
use Rattle.numbers.specs.declared.set.Set.{Set}
use Rattle.board.specs.Plans.{bits_of}
use Rattle.formats.specs.Wire.{twos, words, word}

double_suc : (i : ℕ) → 2 * suc i ≡ suc (suc (2 * i))
double_suc i = omega arith

pub get_or_words : (bs : List ℕ) (i : ℕ) → 2 * i + 1 < length bs → get_or (words bs) i 0 ≡ word bs (2 * i)
get_or_words [] i h = absurd (omega arith)
get_or_words (a ∷ []) i h = absurd (omega arith)
get_or_words (a ∷ b ∷ bs) zero h = refl
get_or_words (a ∷ b ∷ bs) (suc i) h = get_or_words bs i (omega arith) ∙ simp (double_suc, add-one)

pub length_words : (bs : List ℕ) (n : ℕ) → length bs ≡ 2 * n → length (words bs) ≡ n
length_words [] n h = omega arith
length_words (a ∷ []) n h = absurd (omega arith)
length_words (a ∷ b ∷ bs) zero h = absurd (omega arith)
length_words (a ∷ b ∷ bs) (suc n) h = ap suc (length_words bs n (omega arith))

pub length_twos : (ws : List ℕ) → length (twos ws) ≡ 2 * length ws
length_twos [] = refl
length_twos (w ∷ ws) = let h = length_twos ws in omega arith

pub twos_push : (ws : List ℕ) (w : ℕ) → twos (ws ++ w ∷ []) ≡ twos ws ++ (w % 256 ∷ w / 256 % 256 ∷ [])
twos_push [] w = refl
twos_push (v ∷ ws) w = ap (λ z. v % 256 ∷ v / 256 % 256 ∷ z) (twos_push ws w)

pub low_byte : (a b : ℕ) → a < 256 → (a + b * 256) % 256 ≡ a
low_byte a b h = ap (λ z. z % 256) (add_comm a (b * 256)) ∙ mod-mul-add b 256 a h

pub high_byte : (a b : ℕ) → a < 256 → b < 256 → (a + b * 256) / 256 % 256 ≡ b
high_byte a b h g =
    let e : b % 256 ≡ b = omega arith in
    ap (λ z. z / 256 % 256) (add_comm a (b * 256)) ∙ (ap (λ z. z % 256) (div-mul-add b 256 a h) ∙ e)

pub joined : (w : ℕ) → w < 65536 → w % 256 + w / 256 % 256 * 256 ≡ w
joined w h = omega arith

pub twos_words : (bs : List ℕ) (n : ℕ) → length bs ≡ 2 * n → ((i : ℕ) → get_or bs i 0 < 256) → twos (words bs) ≡ bs
twos_words [] n e h = refl
twos_words (a ∷ []) n e h = absurd (omega arith)
twos_words (a ∷ b ∷ bs) zero e h = absurd (omega arith)
twos_words (a ∷ b ∷ bs) (suc n) e h =
    let l : (a + b * 256) % 256 ≡ a = low_byte a b (h 0) in
    let m : (a + b * 256) / 256 % 256 ≡ b = high_byte a b (h 0) (h 1) in
    let r : twos (words bs) ≡ bs = twos_words bs n (omega arith) (λ i. h (suc (suc i))) in
    cc

pub words_twos : (ws : List ℕ) → ((k : ℕ) → get_or ws k 0 < 65536) → words (twos ws) ≡ ws
words_twos [] h = refl
words_twos (w ∷ ws) h =
    let e : w % 256 + w / 256 % 256 * 256 ≡ w = joined w (h 0) in
    let r : words (twos ws) ≡ ws = words_twos ws (λ k. h (suc k)) in
    cc

-- what a function's calls at each index made, where each call leaves the function as it was
module _ {F B : Type 0} (g : Mut F (ℕ × Unit {0}) B) (f : F) (ys : List B) (P : ℕ → B → Type 0)
    (call : (i : ℕ) (y : B) (q : F) → Called g f (i, tt) y q → (q ≡ f) × P i y) where
  pub made_each : (n i : ℕ) → IsFromFnResultFrom g f ys i n → (k : ℕ) → i ≤ k → k < i + n → (d : B) → P k (get_or ys k d)
  made_each zero i each k low high d = absurd (omega arith)
  made_each (suc n) i each k low high d =
      let here = call i each.1 each.0 each.3 in
      ⊎_elim
      (λ (later : i < k).
      made_each n (i + 1) (subst (λ h. IsFromFnResultFrom g h ys (i + 1) n) here.0 each.4) k (omega arith) (omega arith) d)
      (λ (found : k ≤ i).
      let same : i ≡ k = omega arith in
      subst (λ j. P j (get_or ys j d)) same (subst (P i) (sym (each.2.1 d)) here.1))
      (cases_lt i k)

-- sets that were read one by one
pub sets_read :
    (bs : List ℕ) (sets : List (Set TaskNo)) (z : Set TaskNo) (n : ℕ) → length bs ≡ 2 * n → n ≤ length sets →
    ((k : ℕ) → k < n → (get_or sets k z).bits ≡ word bs (2 * k)) → map bits_of (take n sets) ≡ words bs
sets_read bs sets z n even room each =
    let taken : length (take n sets) ≡ n = length-take-le n sets room in
    let long : length (map bits_of (take n sets)) ≡ n = length-map (take n sets) bits_of ∙ taken in
    ext_get_or 0 (map bits_of (take n sets)) (words bs) (long ∙ sym (length_words bs n even))
    (λ k low.
    get_or-map bits_of (take n sets) k z 0 (omega arith)
    ∙ (ap bits_of (get_or-take n sets k z (omega arith))
    ∙ (each k (omega arith) ∙ sym (get_or_words bs k (omega arith)))))
