-- The number, the place and the layer of each fault of a plan.
use Rattle.std.specs.Prelude.{ℕ, ◌+◌, ◌*◌}
use Rattle.board.specs.declared.refusal.PlanRefusal.{PlanRefusal}
use Rattle.board.specs.declared.refusal.PlanRefusal.TheVariants.{TaskCount, LineCount, EventCount, PolicyNumber, RuleNumber, StartSet, FavouredSet, WakeSet}
use Rattle.formats.specs.declared.fault.PlanFault.{PlanFault}
use Rattle.formats.specs.declared.fault.Layer.{Layer}
use Rattle.formats.specs.declared.fault.Layer.TheVariants as layer
use Rattle.formats.specs.declared.fault.Refusal.{Refusal}
use Rattle.formats.specs.declared.fault.PlanFault.TheVariants.{Short, Mark, Version, Refused, Buffer}

abbrev refusal_number : PlanRefusal → ℕ
refusal_number TaskCount = 4
refusal_number LineCount = 4
refusal_number EventCount = 4
refusal_number PolicyNumber = 5
refusal_number RuleNumber = 5
refusal_number StartSet = 6
refusal_number FavouredSet = 6
refusal_number (WakeSet tasks lines event) = 6

abbrev refusal_place : PlanRefusal → ℕ
refusal_place TaskCount = 5
refusal_place LineCount = 6
refusal_place EventCount = 7
refusal_place PolicyNumber = 8
refusal_place RuleNumber = 9
refusal_place StartSet = 10
refusal_place FavouredSet = 12
refusal_place (WakeSet tasks lines event) = 14 + tasks + lines + 2 * event.0

abbrev pub plan_number : PlanFault → ℕ
plan_number (Short length) = 1
plan_number Mark = 2
plan_number Version = 3
plan_number (Refused refusal) = refusal_number refusal
plan_number (Buffer length) = 10

abbrev pub plan_place : PlanFault → ℕ
plan_place (Short length) = length
plan_place Mark = 0
plan_place Version = 3
plan_place (Refused refusal) = refusal_place refusal
plan_place (Buffer length) = length

-- a plan's fault has the plan's layer
abbrev pub plan_refusal : PlanFault → Refusal
plan_refusal fault = record { number = plan_number fault; place = plan_place fault; layer = layer.Plan }

abbrev pub layer_number : Layer → ℕ
layer_number layer.Plan = 1
layer_number layer.Run = 2
layer_number layer.Drive = 3
layer_number layer.Program = 4
