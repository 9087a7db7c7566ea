use Rattle.std.proofs.Common.{◌≡◌, ℕ, ◌+◌, ◌*◌, ◌<◌, get_or, drop}
use Rattle.board.specs.Refusing.{first}
use Rattle.runs.specs.Runs.{steps_tests}
use Rattle.runs.proofs.Writing.{blank}
use Rattle.runs.proofs.write.check_steps.Given as goal

abbrev pub invariant-loop-k : goal.invariant-loop-k
invariant-loop-k l = record {
  passed : first (steps_tests 5 l.steps) ≡ first (steps_tests (5 + 4 * l.k-counter) (drop l.k-counter l.steps));
  sized : (i : ℕ) → i < l.k-counter → (get_or l.steps i blank).set < 65536;
}
