use Rattle.std.proofs.Common.{refl, rules}
use Rattle.kernel.specs.States.{at_resume}
use Rattle.system.proofs.Noting.{noted_change}
use Rattle.system.proofs.table.TaskTable.note_resume.Goals as goal

pub returns-then-task-lt16 : goal.returns-then-task-lt16
returns-then-task-lt16 c = noted_change c.args.self.now.records c.args.task.0 _ (at_resume c.args.resume) (search rules) refl
