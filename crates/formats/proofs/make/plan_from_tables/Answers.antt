use Rattle.std.proofs.Common.{rules}
use Rattle.board.specs.Viewed.{given}
use Rattle.formats.proofs.RoundTrip.{read_back}
use Rattle.formats.proofs.make.plan_from_tables.Goals as goal

pub returns-in_err-from_tables-clause-as_read : goal.returns-in_err-from_tables-clause-as_read
returns-in_err-from_tables-clause-as_read c =
    λ small rest. rw (read_back (given c.args.tables.now) small.start small.favoured small.wakes rest) (search rules)

pub returns-clause-as_read : goal.returns-clause-as_read
returns-clause-as_read c =
    λ small rest. rw (read_back (given c.args.tables.now) small.start small.favoured small.wakes rest) (search rules)
