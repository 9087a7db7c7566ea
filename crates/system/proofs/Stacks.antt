-- What the slots say of the list of suspended routines.
use Rattle.std.proofs.Common.{◌≡◌, ℕ, zero, suc, ◌+◌, ◌-◌, ◌<◌, ◌≤◌, Bool, ◌||◌, ◌≢◌, List, [], ◌∷◌, reverse, length, get_or, set, take, sym, refl, ap, ◌∙◌, add-one, arith, get_or-set_other, get_or-set_same}
use Rattle.std.proofs.Math.Bool.{or_comm}
use Rattle.std.proofs.lemmas.List.Folds.{list_any_more}
use Rattle.std.proofs.Math.Seq.{take-suc}
use Rattle.std.proofs.lemmas.List.{reverse-append}
use Rattle.std.specs.List.{list_any, slice_get}
use Rattle.numbers.specs.declared.number.LineNo.{LineNo}
use Rattle.kernel.specs.declared.routine.Routine.{Routine}
use Rattle.kernel.specs.declared.routine.Routine.TheVariants.{Direct}
use Rattle.kernel.specs.Rules.{handles, nested, rest}
use Rattle.system.specs.declared.stack.Stack.{Stack}
use Rattle.system.specs.Listed.{latest, listed, nth}

pub latest_set : (slots : List Routine) (n k : ℕ) (r : Routine) → n ≤ k → latest (set slots k r) n ≡ latest slots n
latest_set slots zero k r h = refl
latest_set slots (suc n) k r h =
    let ne : n ≢ k = omega arith in
    let le : n ≤ k = omega arith in
    rw (get_or-set_other slots k n r Direct ne, latest_set slots n k r le)

pub latest_push : (slots : List Routine) (n : ℕ) (r : Routine) → n < length slots → latest (set slots n r) (n + 1) ≡ r ∷ latest slots n
latest_push slots n r h =
    let le : n ≤ n = omega arith in
    rw (add-one n, get_or-set_same slots n r Direct h, latest_set slots n n r le)

pub length_latest : (slots : List Routine) (n : ℕ) → length (latest slots n) ≡ n
length_latest slots zero = refl
length_latest slots (suc n) = ap suc (length_latest slots n)

pub listed_length : (s : Stack) → length (listed s) ≡ s.len
listed_length s = length_latest s.slots s.len

latest_reversed : (slots : List Routine) (n : ℕ) → n ≤ length slots → latest slots n ≡ reverse (take n slots)
latest_reversed slots zero h = refl
latest_reversed slots (suc n) h =
    let before : latest slots n ≡ reverse (take n slots) = latest_reversed slots n (omega arith) in
    rw (take-suc slots n Direct h, reverse-append (take n slots) (get_or slots n Direct ∷ [])) (ap (λ rs. get_or slots n Direct ∷ rs) before)

got : (rs : List Routine) (i : ℕ) → slice_get rs i ≡ nth rs i
got [] i = refl
got (r ∷ rs) zero = refl
got (r ∷ rs) (suc i) = got rs i

pub nth_get : (slots : List Routine) (n i : ℕ) → n ≤ length slots → slice_get (reverse (take n slots)) i ≡ nth (latest slots n) i
nth_get slots n i h = ap (λ rs. slice_get rs i) (sym (latest_reversed slots n h)) ∙ got (latest slots n) i

holds_any : (line : LineNo) (p : Routine → Bool) → ((r : Routine) → p r ≡ handles line r) → (slots : List Routine) (n : ℕ) → n ≤ length slots → list_any p (take n slots) ≡ nested line (latest slots n)
holds_any line p same slots zero h = refl
holds_any line p same slots (suc n) h =
    let here : p (get_or slots n Direct) ≡ handles line (get_or slots n Direct) = same _ in
    let before : list_any p (take n slots) ≡ nested line (latest slots n) = holds_any line p same slots n (omega arith) in
    let more : list_any p (take (n + 1) slots) ≡ (list_any p (take n slots) || p (get_or slots n Direct)) = list_any_more p slots n Direct (omega arith) in
    let both : (p (get_or slots n Direct) || list_any p (take n slots)) ≡ (handles line (get_or slots n Direct) || nested line (latest slots n)) = cc in
    ap (λ k. list_any p (take k slots)) (sym (add-one n)) ∙ more ∙ or_comm (list_any p (take n slots)) (p (get_or slots n Direct)) ∙ both

pub holds_among : (line : LineNo) (p : Routine → Bool) → ((r : Routine) → p r ≡ handles line r) → (slots : List Routine) (n : ℕ) → n ≤ length slots → (held : List Routine) → held ≡ take n slots → list_any p held ≡ nested line (latest slots n)
holds_among line p same slots n h held e = ap (λ rs. list_any p rs) e ∙ holds_any line p same slots n h

pub latest_replace : (slots : List Routine) (n : ℕ) (r : Routine) → 0 < n → n ≤ length slots → latest (set slots (n - 1) r) n ≡ r ∷ rest (latest slots n)
latest_replace slots zero r some h = let z : ⊥ = omega arith in absurd z
latest_replace slots (suc n) r some h =
    let e : suc n - 1 ≡ n = omega arith in
    let low : n < length slots = omega arith in
    let le : n ≤ n = omega arith in
    ap (λ m. latest (set slots m r) (suc n)) e ∙ top n low le
  where
    top : (m : ℕ) → m < length slots → m ≤ m → latest (set slots m r) (suc m) ≡ r ∷ latest slots m
    top m low le = rw (get_or-set_same slots m r Direct low, latest_set slots m m r le)
