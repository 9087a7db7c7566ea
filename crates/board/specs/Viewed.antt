-- The parts of a plan and of tables, as the code holds them.
use Rattle.std.specs.Prelude.{◌≡◌, ℕ, map, length, take, Ok, Err, Result}
use Rattle.board.specs.declared.plan.Counts.{Counts}
use Rattle.board.specs.declared.plan.Plan.{Plan}
use Rattle.board.specs.declared.plan.Tables.{Tables}
use Rattle.board.specs.declared.refusal.PlanRefusal.{PlanRefusal}
use Rattle.board.specs.Kinds.{policy_number, rule_number}
use Rattle.board.specs.Plans.{Parts, bits_of, count_tests}
use Rattle.board.specs.Refusing.{first, unless}

abbrev pub parts : Plan → Parts
parts p =
    record {
      policy = policy_number p.policy;
      rule = rule_number p.rule;
      start = p.start.bits;
      favoured = p.favoured.bits;
      priorities = take p.priorities.count p.priorities.places;
      levels = take p.levels.count p.levels.places;
      wakes = map bits_of (take p.wakes.count p.wakes.places);
    }

-- the counts of a plan are the lengths of its tables
pub record Counted (p : Parts) (counts : Counts) : Type 0 where
  pub tasks : counts.tasks ≡ length p.priorities
  pub lines : counts.lines ≡ length p.levels
  pub events : counts.events ≡ length p.wakes

-- the counts, or the refusal of the first that is out of range
abbrev pub counted : ℕ → ℕ → ℕ → Result Counts PlanRefusal
counted tasks lines events =
    unless (first (count_tests tasks lines events)) (record { tasks = tasks; lines = lines; events = events })

abbrev pub given : Tables → Parts
given t =
    record {
      policy = t.policy;
      rule = t.rule;
      start = t.start.bits;
      favoured = t.favoured.bits;
      priorities = t.priorities.now;
      levels = t.levels.now;
      wakes = map bits_of t.wakes.now;
    }

-- an answer by the parts of its plan
abbrev pub made : {E : Type 0} → Result Plan E → Result Parts E
made (Ok p) = Ok (parts p)
made (Err e) = Err e
