use Rattle.std.proofs.Common.{refl, rules}
use Rattle.kernel.specs.declared.place.TaskPlace.TheVariants.{Adding}
use Rattle.kernel.specs.States.{at_kept, at_place}
use Rattle.system.proofs.Noting.{noted_change}
use Rattle.system.proofs.table.TaskTable.keep.Goals as goal

pub returns-then-task-lt16 : goal.returns-then-task-lt16
returns-then-task-lt16 c = noted_change c.args.self.now.records c.args.task.0 _ (λ r. at_place Adding (at_kept c.args.kept.bits r)) (search rules) refl
