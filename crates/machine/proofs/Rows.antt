-- Rows of answers, one entry longer.
use Rattle.std.proofs.Common.{◌≡◌, ℕ, ◌+◌, ◌<◌, List, [], ◌∷◌, ◌++◌, length, drop, set, add-one, append_assoc, drop-cons}
use Rattle.std.proofs.Math.Seq.{set-append_seam}

-- an entry is written right after the first ones
pub set_next : {A : Type 0} (first xs : List A) (k : ℕ) (v : A) → length first ≡ k → k < length xs → set (first ++ drop k xs) k v ≡ (first ++ (v ∷ [])) ++ drop (k + 1) xs
set_next first xs k v e h = rw (add-one, drop-cons xs k v, ← e, set-append_seam, append_assoc)
