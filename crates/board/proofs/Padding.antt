-- Tables of sixteen places.
use Rattle.std.proofs.Common.{◌≡◌, ℕ, zero, suc, ◌-◌, ◌<◌, ◌≤◌, List, [], ◌∷◌, ◌++◌, map, length, get_or, take, replicate, sym, refl, ap, ◌∙◌}
use Rattle.std.proofs.lemmas.List.{map-append, length-map, take_at}
use Rattle.numbers.specs.declared.number.TaskNo.{TaskNo}
use Rattle.numbers.specs.declared.set.Set.{Set}
use Rattle.board.specs.Plans.{Filled, bits_of, padded}

pub take_padded : {A : Type 0} (z : A) (xs all : List A) → all ≡ padded z xs → take (length xs) all ≡ xs
take_padded z xs all e = ap (take (length xs)) e ∙ take_at xs _ (length xs) refl

pub padded_again : {A : Type 0} (z : A) (xs all : List A) → all ≡ padded z xs → padded z (take (length xs) all) ≡ all
padded_again z xs all e = ap (padded z) (take_padded z xs all e) ∙ sym e

map_replicate : {A B : Type 0} (f : A → B) (n : ℕ) (z : A) → map f (replicate n z) ≡ replicate n (f z)
map_replicate f zero z = refl
map_replicate f (suc n) z = ap (λ v. f z ∷ v) (map_replicate f n z)

pub map_padded : {A B : Type 0} (f : A → B) (z : A) (xs : List A) → map f (padded z xs) ≡ padded (f z) (map f xs)
map_padded f z xs =
    map-append f xs (replicate (16 - length xs) z)
    ∙ (ap (λ v. map f xs ++ v) (map_replicate f (16 - length xs) z)
    ∙ ap (λ n. map f xs ++ replicate (16 - n) (f z)) (sym (length-map xs f)))

pub get_or_zeros : (n k : ℕ) → ◌≡◌ {A = ℕ} (get_or (replicate n 0) k 0) 0
get_or_zeros zero k = refl
get_or_zeros (suc n) zero = refl
get_or_zeros (suc n) (suc k) = get_or_zeros n k

-- the places after the entries add nothing to what is read
pub get_or_padded : (xs : List ℕ) (n k : ℕ) → get_or (xs ++ replicate n 0) k 0 ≡ get_or xs k 0
get_or_padded [] n k = get_or_zeros n k
get_or_padded (x ∷ xs) n zero = refl
get_or_padded (x ∷ xs) n (suc k) = get_or_padded xs n k

-- a table that holds some numbers
pub filled :
    (xs all : List ℕ) (count : ℕ) → count ≡ length xs → length xs ≤ 16 → all ≡ padded 0 xs → Filled count (take count all) all
filled xs all count is few e =
    rw is (record { few = few; counted = ap length (take_padded 0 xs all e); zeros_after = padded_again 0 xs all e })

-- a table that holds some sets
module _ (ws all : List (Set TaskNo)) (z : Set TaskNo) (empty : z.bits ≡ 0) (e : all ≡ padded z ws) where
  pub bits_padded : map bits_of all ≡ padded 0 (map bits_of ws)
  bits_padded = ap (map bits_of) e ∙ (map_padded bits_of z ws ∙ ap (λ v. padded v (map bits_of ws)) empty)

  pub sets_filled : (count : ℕ) → count ≡ length ws → length ws ≤ 16 → Filled count (map bits_of (take count all)) (map bits_of all)
  sets_filled count is few =
      rw is
      (record {
        few = few;
        counted = ap (λ v. length (map bits_of v)) (take_padded z ws all e) ∙ length-map ws bits_of;
        zeros_after = ap (λ v. padded 0 (map bits_of v)) (take_padded z ws all e) ∙ sym bits_padded;
      })

  -- the places after the sets hold none
  pub places_known : (t : ℕ) → ((k : ℕ) → get_or (map bits_of ws) k 0 < t) → (k : ℕ) → get_or (map bits_of all) k 0 < t
  places_known t low k = rw bits_padded (rw (get_or_padded (map bits_of ws) (16 - length (map bits_of ws)) k) (low k))
