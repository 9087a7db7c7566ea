-- What a plan's policy chooses.
use Rattle.std.proofs.Common.{◌≡◌, ℕ, List, Option, refl, ap, ◌∙◌}
use mathlib.Core.Path.{fun_ext}
use Rattle.numbers.specs.declared.number.TaskNo.{TaskNo}
use Rattle.policy.specs.Policies.{favour}
use Rattle.board.specs.declared.kinds.PolicyKind.{PolicyKind}
use Rattle.board.specs.declared.kinds.PolicyKind.TheVariants.{Priority, Stay, Shared}
use Rattle.board.specs.Kinds.{policy_number}
use Rattle.board.specs.Planned.{chosen_by, chosen_numbered, plan_choice}
use Rattle.board.specs.Plans.{Parts, padded}

by_number : (kind : PolicyKind) (ps : List ℕ) (s : ℕ) (c : TaskNo) → chosen_by kind ps s c ≡ chosen_numbered (policy_number kind) ps s c
by_number Priority ps s c = refl
by_number Stay ps s c = refl
by_number Shared ps s c = refl

pub plan_chosen :
    (p : Parts) (kind : PolicyKind) (ps : List ℕ) (group : ℕ) → policy_number kind ≡ p.policy → ps ≡ padded 0 p.priorities → group ≡ p.favoured →
    (λ (s : ℕ) (c : TaskNo). favour (chosen_by kind ps) group s c) ≡ plan_choice p
plan_chosen p kind ps group is all same =
    let one : chosen_by kind ps ≡ chosen_numbered p.policy (padded 0 p.priorities) =
    fun_ext (λ (s : ℕ). fun_ext (λ (c : TaskNo).
    by_number kind ps s c ∙ ap (λ n. chosen_numbered n ps s c) is ∙ ap (λ (v : List ℕ). chosen_numbered p.policy v s c) all)) in
    ap (λ (below : ℕ → TaskNo → Option TaskNo). λ (s : ℕ) (c : TaskNo). favour below group s c) one
    ∙ ap (λ g. λ (s : ℕ) (c : TaskNo). favour (chosen_numbered p.policy (padded 0 p.priorities)) g s c) same
