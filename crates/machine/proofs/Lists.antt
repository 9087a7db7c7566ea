-- A list of calls, applied call by call into a row of answers.
use Rattle.std.proofs.Common.{ℕ, ◌+◌, ◌<◌, ◌≤◌, List, [], ◌++◌, length, get_or, take, set, refl, ap, ◌∙◌, arith}
use Rattle.std.proofs.lemmas.List.{length-take-le, take_more}
use Rattle.kernel.specs.declared.call.Call.{Call}
use Rattle.kernel.specs.Rules.{Chooses}
use Rattle.kernel.specs.Histories.{answers}
use Rattle.kernel.proofs.Listing.{answers_length, answers_more, answers_none, state_more, state_none}
use Rattle.machine.specs.declared.machine.Machine.{Machine}
use Rattle.machine.specs.Machines.{board_of, policy_of, ranks_of, state_of}
use Rattle.machine.specs.Making.{Makes, MakesAll}
use Rattle.machine.proofs.Rows.{set_next}

module _ {P : Type 0} (chosen : P → Chooses) where
  pub makes_none : (m : Machine P) (row : List (ℕ × ℕ)) → MakesAll chosen [] m m row row
  makes_none m row =
      record {
        state = state_none (board_of m) (chosen (policy_of m)) (ranks_of m) (state_of m);
        out = ap (λ (l : List (ℕ × ℕ)). l ++ row) (answers_none (board_of m) (chosen (policy_of m)) (ranks_of m) (state_of m));
        plan = refl;
        policy = refl;
        ranks = refl;
      }

  -- after the first k calls, the next one
  pub makes_more : (calls : List Call) (k : ℕ) (d : Call) (before m later : Machine P) (row_before row : List (ℕ × ℕ)) (r : ℕ × ℕ)
      → k < length calls → length calls ≤ length row_before
      → MakesAll chosen (take k calls) before m row_before row → Makes chosen (get_or calls k d) m later r
      → MakesAll chosen (take (k + 1) calls) before later row_before (set row k r)
  makes_more calls k d before m later row_before row r here room done made =
      let plan = board_of before in
      let choose = chosen (policy_of before) in
      let rank = ranks_of before in
      let first = state_of before in
      let c = get_or calls k d in
      let longer = take_more calls k d here in
      let state = state_more plan choose rank (take k calls) c first in
      let follows = made.follows in
      let more = answers_more plan choose rank (take k calls) c first in
      let so_far = length-take-le k calls (omega arith) in
      let now = length-take-le (k + 1) calls (omega arith) in
      let written = set_next (answers plan choose rank (take k calls) first) row_before k r (answers_length plan choose rank (take k calls) first ∙ so_far) (omega arith) in
      record {
        state = cc;
        out = cc;
        plan = made.plan ∙ done.plan;
        policy = made.policy ∙ done.policy;
        ranks = made.ranks ∙ done.ranks;
      }
