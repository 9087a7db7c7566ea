use Rattle.std.proofs.Common.{◌++◌, length, drop, replicate, ap, ◌∙◌}
use Rattle.std.proofs.lemmas.List.{drop-replicate}
use Rattle.board.proofs.table.Table.new.Goals as goal

pub returns-clause-places : goal.returns-clause-places
returns-clause-places g c =
    ap (λ v. v ++ drop (length c.args.entries.now) (replicate 16 c.args.zero)) c.copy_from_slice.ensures.after
    ∙ ap (λ v. c.args.entries.now ++ v) (drop-replicate (length c.args.entries.now) 16 c.args.zero)
