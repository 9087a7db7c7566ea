use Rattle.std.proofs.Common.{rules}
use Rattle.formats.proofs.Stages.{fault_in_numbers, fault_in_sets, read_whole}
use Rattle.formats.proofs.read.parse.Goals as goal

pub returns-in_err-check_numbers-clause-answer : goal.returns-in_err-check_numbers-clause-answer
returns-in_err-check_numbers-clause-answer c =
    search (rules, fault_in_numbers c.args.bytes.now c.in_ok-check_head.ensures c.in_err-check_numbers.ensures)

pub returns-in_err-plan-clause-answer : goal.returns-in_err-plan-clause-answer
returns-in_err-plan-clause-answer c =
    search (rules, fault_in_sets c.args.bytes.now c.in_ok-check_head.ensures c.in_ok-check_numbers.ensures c.if-bytes-size.false c.in_err-plan.ensures)

pub returns-clause-answer : goal.returns-clause-answer
returns-clause-answer c =
    read_whole c.args.bytes.now c.in_ok-check_head.ensures c.in_ok-check_numbers.ensures c.if-bytes-size.false c.in_ok-plan.ensures
