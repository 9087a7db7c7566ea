use Rattle.std.proofs.Common.{refl}
use Rattle.numbers.specs.Sets.{has, gathered}
use Rattle.policy.specs.Policies.{first_from, stay}
use Rattle.policy.specs.Priorities.{highest_below}
use Rattle.board.specs.Figure.{some_line, how_many}
use Rattle.cases.proofs.shown.worked_cases.Goals as goal

pub returns-clause-all : goal.returns-clause-all
unfolding has gathered first_from stay highest_below some_line how_many
returns-clause-all c = refl
