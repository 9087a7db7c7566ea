-- Text after text, where there is room for the first bytes only.
use Rattle.std.proofs.Common.{◌≡◌, ℕ, zero, suc, ◌+◌, ◌-◌, ◌<◌, ◌≤◌, List, [], ◌∷◌, ◌++◌, length, take, set, min, ⊎_elim, sym, refl, ap, ◌∙◌, append_assoc, arith}
use Rattle.std.proofs.Math.Seq.{take-append-add}
use Rattle.std.proofs.lemmas.Bool.{cases_lt}
use Rattle.std.proofs.lemmas.List.{length_push, length-take-le, take_all, take-append-le, take_more_set}

pub cut_twice : (n : ℕ) (xs ys : List ℕ) → take n (take n xs ++ ys) ≡ take n (xs ++ ys)
cut_twice zero xs ys = refl
cut_twice (suc n) [] ys = refl
cut_twice (suc n) (x ∷ xs) ys = ap (λ zs. x ∷ zs) (cut_twice n xs ys)

-- what is added to a text that was cut
pub cut_on : (n : ℕ) (xs ys zs : List ℕ) {ws vs : List ℕ} → ws ≡ take n (xs ++ ys) → vs ≡ take n (ws ++ zs) → vs ≡ take n (xs ++ (ys ++ zs))
cut_on n xs ys zs e f = f ∙ ap (λ ws. take n (ws ++ zs)) e ∙ cut_twice n (xs ++ ys) zs ∙ ap (take n) (append_assoc xs ys zs)

pub one_more : (n len b : ℕ) (bs : List ℕ) → length bs ≡ n → len < n → take (len + 1) (set bs len b) ≡ take n (take len bs ++ b ∷ [])
one_more n len b bs same room =
    let low : len < length bs = omega arith in
    let le : len ≤ length bs = omega arith in
    let long : length (take len bs ++ b ∷ []) ≤ n = omega (arith, length_push (take len bs) b, length-take-le len bs le) in
    take_more_set bs len b low ∙ sym (take_all n _ long)

pub no_more : (n len : ℕ) (bs cs : List ℕ) → length bs ≡ n → n ≤ len → take len bs ≡ take n (take len bs ++ cs)
no_more n len bs cs same full =
    let all : take len bs ≡ bs = take_all len bs (omega arith) in
    let le : n ≤ length bs = omega arith in
    all ∙ sym (take_all n bs (omega arith)) ∙ sym (take-append-le n bs cs le) ∙ ap (λ ws. take n (ws ++ cs)) (sym all)

-- of what is added there is room for the first bytes
pub room_for : (n len : ℕ) (bs ws : List ℕ) → length bs ≡ n → len ≤ n → take len bs ++ take (min (length ws) (n - len)) ws ≡ take n (take len bs ++ ws)
room_for n len bs ws same fits =
    let short : length (take len bs) ≡ len = length-take-le len bs (omega arith) in
    let whole : length (take len bs) + (n - len) ≡ n = omega arith in
    let first : take (min (length ws) (n - len)) ws ≡ take (n - len) ws =
    ⊎_elim
    (λ (few : length ws < n - len). take_all _ ws (omega arith) ∙ sym (take_all (n - len) ws (omega arith)))
    (λ (many : n - len ≤ length ws). ap (λ k. take k ws) (omega arith))
    (cases_lt (length ws) (n - len)) in
    ap (λ zs. take len bs ++ zs) first
    ∙ (sym (take-append-add (take len bs) ws (n - len)) ∙ ap (λ k. take k (take len bs ++ ws)) whole)

-- the same of a text that began empty
pub cut_after : (n : ℕ) (xs ys : List ℕ) {ws vs : List ℕ} → ws ≡ take n xs → vs ≡ take n (ws ++ ys) → vs ≡ take n (xs ++ ys)
cut_after n xs ys e f = f ∙ ap (λ ws. take n (ws ++ ys)) e ∙ cut_twice n xs ys

pub uncut : (n : ℕ) (xs : List ℕ) {ws : List ℕ} → ws ≡ take n xs → length xs ≤ n → ws ≡ xs
uncut n xs e short = e ∙ take_all n xs short
