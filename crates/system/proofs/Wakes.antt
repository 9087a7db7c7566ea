-- Waking, event by event.
use Rattle.std.proofs.Common.{◌≡◌, ℕ, ◌+◌, ◌<◌, true, false, List, map, length, get_or, refl, ap, ◌∙◌, add-one}
use lib.Bits.{bit_or}
use Rattle.std.proofs.lemmas.Bool.{cond-true, cond-false}
use Rattle.std.proofs.lemmas.List.{get_or-map}
use Rattle.numbers.specs.declared.number.TaskNo.{TaskNo}
use Rattle.numbers.specs.declared.set.Set.{Set}
use Rattle.numbers.specs.Sets.{has}
use Rattle.board.specs.Plans.{bits_of}
use Rattle.kernel.specs.Rules.{woken_below}

pub woken_none : (wakes : List ℕ) (events : ℕ) → 0 ≡ woken_below 0 wakes events
unfolding woken_below
woken_none wakes events = refl

pub woken_more : (wakes : List ℕ) (events n : ℕ) → has events n ≡ true → woken_below (n + 1) wakes events ≡ bit_or (woken_below n wakes events) (get_or wakes n 0)
unfolding woken_below
woken_more wakes events n h = ap (λ m. woken_below m wakes events) (add-one n) ∙ cond-true _ _ _ h

pub woken_same : (wakes : List ℕ) (events n : ℕ) → has events n ≡ false → woken_below (n + 1) wakes events ≡ woken_below n wakes events
unfolding woken_below
woken_same wakes events n h = ap (λ m. woken_below m wakes events) (add-one n) ∙ cond-false _ _ _ h

pub get_bits : (sets : List (Set TaskNo)) (n : ℕ) (d : Set TaskNo) → n < length sets → get_or (map bits_of sets) n 0 ≡ (get_or sets n d).bits
get_bits sets n d h = get_or-map bits_of sets n d 0 h

pub ruleset woken_below_steps = (woken_none, woken_more, woken_same, get_bits)
