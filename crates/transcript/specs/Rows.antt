-- The rows that the programs print.
use Rattle.std.specs.Prelude.{ℕ, List, [], ◌∷◌, ◌++◌, decimal}
use Rattle.kernel.specs.declared.call.Call.{Call}
use Rattle.kernel.specs.Numbers.{call_number}

abbrev space : List ℕ
space = 32 ∷ []

-- ORDINAL CODE ANSWER ACTIVE
abbrev pub step_row : ℕ → Call → ℕ → ℕ → List ℕ
step_row ordinal call answer active =
    decimal ordinal ++ space ++ decimal (call_number call) ++ space ++ decimal answer ++ space ++ decimal active ++ (10 ∷ [])
