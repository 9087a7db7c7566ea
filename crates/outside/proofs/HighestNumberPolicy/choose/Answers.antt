use Rattle.std.proofs.Common.{◌≡◌, ℕ, ◌+◌, ◌-◌, ◌<◌, true, false, Some, None, Option, refl, sym, subst, arith, rules}
use Rattle.std.proofs.iter.runs.Sources.{ranges}
use Rattle.numbers.specs.declared.number.TaskNo.{TaskNo}
use Rattle.numbers.specs.Sets.{has}
use Rattle.outside.specs.Highest.{highest}
use Rattle.outside.specs.HighestLemmas.{highest_none, highest_some}
use Rattle.outside.proofs.HighestNumberPolicy.choose.Goals as goal

-- the item at place k of the chain is 15 - k
from_places : (s i : ℕ) → i < 16 → has s (15 - (15 - i)) ≡ false → has s i ≡ false
from_places s i l h = let e : 15 - (15 - i) ≡ i = omega arith in subst (λ (j : ℕ). has s j ≡ false) e h

by_places : (s : ℕ) (o : Option TaskNo)
    → ((t : TaskNo) → o ≡ Some t → (t.0 < 16) × (has s t.0 ≡ true))
    → ((t : TaskNo) → o ≡ Some t → (k : ℕ) → k + t.0 < 15 → has s (15 - k) ≡ false)
    → (o ≡ None → (k : ℕ) → k < 16 → has s (15 - k) ≡ false)
    → o ≡ highest 16 s
by_places s None found above none = sym (highest_none s 16 (λ i l. from_places s i l (none refl (15 - i) (omega arith))))
by_places s (Some t) found above none =
    let f = found t refl in
    sym (highest_some s 16 t f.0 f.1 (λ i a l. from_places s i l (above t refl (15 - i) (omega arith))))

pub returns : goal.returns
returns c =
    by_places c.args.ready.bits c.find.result
    (λ t e. (search (rules, ranges), search (rules, ranges)))
    (λ t e k l. search (rules, ranges))
    (λ e k l. search (rules, ranges))
