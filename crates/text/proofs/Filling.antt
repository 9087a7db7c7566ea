-- What is written into a text's fields leaves zeros behind it.
use Rattle.std.proofs.Common.{◌≡◌, ℕ, ◌+◌, ◌-◌, ◌<◌, ◌≤◌, List, length, take, drop, set, sym, ap, ◌∙◌, arith, length-set}
use Rattle.std.proofs.Math.ListN.{replicate}
use Rattle.std.proofs.lemmas.List.{length-drop, length-take-le, drop-set-lt, drop-drop, drop-replicate}
use Rattle.std.proofs.lemmas.Slice.{drop-put_mid}
use borrow.Rule.Slice.PartMut.{put_mid, mid_of, same_len_mid}
use Rattle.text.specs.Texts.{Padded}

-- fewer zeros further on
later : (len k : ℕ) (bs : List ℕ) → Padded len bs → len + k ≤ 512 → drop (len + k) bs ≡ replicate (512 - (len + k)) 0
later len k bs p fits =
    let cut : drop (len + k) bs ≡ drop k (replicate (512 - len) 0) = sym (drop-drop k len bs) ∙ ap (drop k) p.zeros in
    let fewer : 512 - len - k ≡ 512 - (len + k) = omega arith in
    cut ∙ (drop-replicate k (512 - len) 0 ∙ ap (λ n. replicate n 0) fewer)

pub padded_one_more : (len b : ℕ) (bs : List ℕ) → Padded len bs → len < 512 → Padded (len + 1) (set bs len b)
padded_one_more len b bs p room =
    record {
      fits = omega arith;
      sized = length-set bs len b ∙ p.sized;
      zeros = drop-set-lt (len + 1) bs len b (omega arith) ∙ later len 1 bs p (omega arith);
    }

-- the part that n bytes are copied to
pub part : (len n : ℕ) (bs : List ℕ) → length bs ≡ 512 → len + n ≤ 512 → length (mid_of len (len + n - len) bs) ≡ n
part len n bs sized room =
    let rest : n ≤ length (drop len bs) = omega (arith, length-drop len bs) in
    let many : len + n - len ≡ n = omega arith in
    ap (λ k. length (take k (drop len bs))) many ∙ length-take-le n (drop len bs) rest

pub padded_more :
    (len n : ℕ) (bs ws : List ℕ) → Padded len bs → len + n ≤ 512 → length ws ≡ length (mid_of len (len + n - len) bs) →
    Padded (len + n) (put_mid len (len + n - len) bs ws)
padded_more len n bs ws p room same =
    let many : length ws ≡ len + n - len = same ∙ part len n bs p.sized room ∙ omega arith in
    record {
      fits = room;
      sized = same_len_mid len (len + n - len) bs ws same ∙ p.sized;
      zeros = drop-put_mid len (len + n - len) bs ws (len + n) (omega arith) (omega (arith, p.fits, p.sized)) many ∙ later len n bs p room;
    }
