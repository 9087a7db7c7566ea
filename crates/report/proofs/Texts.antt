-- How long the texts are.
use Rattle.std.proofs.Common.{◌≡◌, ℕ, ◌+◌, ◌*◌, ◌^◌, ◌<◌, ◌≤◌, List, [], ◌∷◌, ◌++◌, length, get_or, take, decimal, refl, sym, ap, ◌∙◌, arith}
use Rattle.std.proofs.lemmas.Fmt.{length-decimal-le}
use Rattle.std.proofs.lemmas.List.{length-append, take_all, take_more}
use Rattle.text.specs.Texts.{cut}
use Rattle.text.proofs.Cutting.{cut_after, uncut}
use Rattle.report.specs.Quotes.{value_line}

decimal_20 : (n : ℕ) → n < 2 ^ 64 → length (decimal n) ≤ 20
decimal_20 n fits =
    let small : n < 10 ^ 20 = omega arith in
    length-decimal-le 20 n (omega arith) small fits

pub decimal_31 : (n : ℕ) → n < 2 ^ 64 → length (decimal n) ≤ 31
decimal_31 n fits = omega (arith, decimal_20 n fits)

more : (xs ys : List ℕ) {i j : ℕ} → length xs ≤ i → length ys ≤ j → length (xs ++ ys) ≤ i + j
more xs ys a b = omega (arith, length-append xs ys)

pub line_22 : (name : List ℕ) (n k : ℕ) → length name ≤ k → n < 2 ^ 64 → length (value_line name n) ≤ k + 22
line_22 name n k short fits =
    let d = decimal_20 n fits in
    omega (arith, length-append name (32 ∷ []), length-append (name ++ (32 ∷ [])) (decimal n), length-append (name ++ (32 ∷ []) ++ decimal n) (10 ∷ []))

-- seven short texts, one after another, are not cut
seven :
    (a b c d e f g : List ℕ) {w0 w1 w2 w3 w4 w5 w6 w7 : List ℕ} → w0 ≡ [] →
    w1 ≡ cut (w0 ++ a) → w2 ≡ cut (w1 ++ b) → w3 ≡ cut (w2 ++ c) → w4 ≡ cut (w3 ++ d) → w5 ≡ cut (w4 ++ e) → w6 ≡ cut (w5 ++ f) → w7 ≡ cut (w6 ++ g) →
    w7 ≡ cut (a ++ b ++ c ++ d ++ e ++ f ++ g)
seven a b c d e f g p0 p1 p2 p3 p4 p5 p6 p7 =
    let c1 = cut_after 512 [] a p0 p1 in
    let c2 = cut_after 512 a b c1 p2 in
    let c3 = cut_after 512 (a ++ b) c c2 p3 in
    let c4 = cut_after 512 (a ++ b ++ c) d c3 p4 in
    let c5 = cut_after 512 (a ++ b ++ c ++ d) e c4 p5 in
    let c6 = cut_after 512 (a ++ b ++ c ++ d ++ e) f c5 p6 in
    cut_after 512 (a ++ b ++ c ++ d ++ e ++ f) g c6 p7

seven_short :
    (a b c d e f g : List ℕ) → length a ≤ 31 → length b ≤ 31 → length c ≤ 31 → length d ≤ 31 → length e ≤ 31 → length f ≤ 31 → length g ≤ 31 →
    length (a ++ b ++ c ++ d ++ e ++ f ++ g) ≤ 217
seven_short a b c d e f g la lb lc ld le lf lg =
    let l2 = more a b la lb in
    let l3 = more (a ++ b) c l2 lc in
    let l4 = more (a ++ b ++ c) d l3 ld in
    let l5 = more (a ++ b ++ c ++ d) e l4 le in
    let l6 = more (a ++ b ++ c ++ d ++ e) f l5 lf in
    more (a ++ b ++ c ++ d ++ e ++ f) g l6 lg

pub seven_parts :
    (a b c d e f g : List ℕ) {w0 w1 w2 w3 w4 w5 w6 w7 : List ℕ} → w0 ≡ [] →
    w1 ≡ cut (w0 ++ a) → w2 ≡ cut (w1 ++ b) → w3 ≡ cut (w2 ++ c) → w4 ≡ cut (w3 ++ d) → w5 ≡ cut (w4 ++ e) → w6 ≡ cut (w5 ++ f) → w7 ≡ cut (w6 ++ g) →
    length a ≤ 31 → length b ≤ 31 → length c ≤ 31 → length d ≤ 31 → length e ≤ 31 → length f ≤ 31 → length g ≤ 31 →
    w7 ≡ a ++ b ++ c ++ d ++ e ++ f ++ g
seven_parts a b c d e f g p0 p1 p2 p3 p4 p5 p6 p7 la lb lc ld le lf lg =
    let short = seven_short a b c d e f g la lb lc ld le lf lg in
    uncut 512 (a ++ b ++ c ++ d ++ e ++ f ++ g) (seven a b c d e f g p0 p1 p2 p3 p4 p5 p6 p7) (omega (arith, short))

-- and eight
pub eight_parts :
    (a b c d e f g h : List ℕ) {w0 w1 w2 w3 w4 w5 w6 w7 w8 : List ℕ} → w0 ≡ [] →
    w1 ≡ cut (w0 ++ a) → w2 ≡ cut (w1 ++ b) → w3 ≡ cut (w2 ++ c) → w4 ≡ cut (w3 ++ d) → w5 ≡ cut (w4 ++ e) → w6 ≡ cut (w5 ++ f) → w7 ≡ cut (w6 ++ g) → w8 ≡ cut (w7 ++ h) →
    length a ≤ 31 → length b ≤ 31 → length c ≤ 31 → length d ≤ 31 → length e ≤ 31 → length f ≤ 31 → length g ≤ 31 → length h ≤ 31 →
    w8 ≡ a ++ b ++ c ++ d ++ e ++ f ++ g ++ h
eight_parts a b c d e f g h p0 p1 p2 p3 p4 p5 p6 p7 p8 la lb lc ld le lf lg lh =
    let ahead = a ++ b ++ c ++ d ++ e ++ f ++ g in
    let short = more ahead h (seven_short a b c d e f g la lb lc ld le lf lg) lh in
    uncut 512 (ahead ++ h) (cut_after 512 ahead h (seven a b c d e f g p0 p1 p2 p3 p4 p5 p6 p7) p8) (omega (arith, short))

-- names and values, a line for each
module _ {N : Type 0} (name : N → List ℕ) where
  abbrev pub line : N × ℕ → List ℕ
  line p = value_line (name p.0) p.1

  abbrev pub lines : List ℕ → List (N × ℕ) → List ℕ
  lines text [] = text
  lines text (p ∷ ps) = lines (text ++ line p) ps

  pub lines_push : (text : List ℕ) (ps : List (N × ℕ)) (p : N × ℕ) → lines text (ps ++ (p ∷ [])) ≡ lines text ps ++ line p
  lines_push text [] p = refl
  lines_push text (x ∷ ps) p = lines_push (text ++ line x) ps p

  abbrev pub Short : List (N × ℕ) → Type 0
  Short [] = Unit {0}
  Short (p ∷ ps) = (length (name p.0) ≤ 9) × (p.1 < 2 ^ 64) × Short ps

  pub lines_short : (text : List ℕ) (ps : List (N × ℕ)) → Short ps → length (lines text ps) ≤ length text + 31 * length ps
  lines_short text [] h = omega arith
  lines_short text (p ∷ ps) h =
      let rest = lines_short (text ++ line p) ps h.2 in
      let here : length (line p) ≤ 31 = line_22 (name p.0) p.1 9 h.0 h.1 in
      omega (arith, length-append text (line p))

  -- a loop that adds the lines to an empty text
  pub lines_more :
      (ps : List (N × ℕ)) (i : ℕ) (none : N × ℕ) {w v : List ℕ} → i < length ps → w ≡ cut (lines [] (take i ps)) → v ≡ cut (w ++ line (get_or ps i none)) →
      v ≡ cut (lines [] (take (i + 1) ps))
  lines_more ps i none h so_far added =
      cut_after 512 (lines [] (take i ps)) (line (get_or ps i none)) so_far added ∙ ap cut (sym (ap (lines []) (take_more ps i none h) ∙ lines_push [] (take i ps) (get_or ps i none)))

  pub lines_all : (ps : List (N × ℕ)) (i : ℕ) {w : List ℕ} → length ps ≤ i → length ps ≤ 16 → Short ps → w ≡ cut (lines [] (take i ps)) → w ≡ lines [] ps
  lines_all ps i h few short so_far =
      uncut 512 (lines [] ps) (so_far ∙ ap (λ l. cut (lines [] l)) (take_all i ps h)) (omega (arith, lines_short [] ps short))
