-- What a board's maker is told of a plan.
use Rattle.std.specs.Prelude.{ℕ, cond, List, [], ◌∷◌, ◌++◌, length, Ok, Err, codes, decimal, Result, nat_lt}
use Rattle.board.specs.Figure.{different_ranks, figure_of}
use Rattle.board.specs.Plans.{Parts}
use Rattle.board.specs.Ranks.{plan_rank}
use Rattle.formats.specs.declared.fault.PlanFault.{PlanFault}
use Rattle.formats.specs.Decode.{decode}
use Rattle.report.specs.declared.fault.ProgramFault.{ProgramFault}
use Rattle.report.specs.declared.fault.ProgramFault.TheVariants.{TooLong, Plan}
use Rattle.report.specs.declared.quote.Quote.{Quote}

-- of a plan with some bytes after it
abbrev pub quote_of : Parts → List ℕ → Quote
quote_of p rest =
    record {
      counts = record { tasks = length p.priorities; lines = length p.levels; events = length p.wakes };
      policy = p.policy;
      rule = p.rule;
      ranks = different_ranks (plan_rank p) (length p.levels);
      suspended = figure_of (plan_rank p) (length p.levels);
      rest = length rest;
    }

abbrev pub of_reading : Result (Parts × List ℕ) PlanFault → Result Quote ProgramFault
of_reading (Ok reading) = Ok (quote_of reading.0 reading.1)
of_reading (Err fault) = Err (Plan fault)

-- of some input: at most 65,536 bytes, which begin with a plan
abbrev pub quoted : List ℕ → Result Quote ProgramFault
quoted bs = cond (nat_lt 65536 (length bs)) (Err TooLong) (of_reading (decode bs))

-- a name and a value
abbrev pub value_line : List ℕ → ℕ → List ℕ
value_line name value = name ++ (32 ∷ []) ++ decimal value ++ (10 ∷ [])

abbrev pub quote_text : Quote → List ℕ
quote_text q =
    value_line (codes "tasks") q.counts.tasks
    ++ value_line (codes "lines") q.counts.lines
    ++ value_line (codes "events") q.counts.events
    ++ value_line (codes "policy") q.policy
    ++ value_line (codes "rule") q.rule
    ++ value_line (codes "ranks") q.ranks
    ++ value_line (codes "suspended") q.suspended
    ++ value_line (codes "rest") q.rest
