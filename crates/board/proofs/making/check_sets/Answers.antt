use Rattle.std.proofs.Common.{Some, None, rules, refl, sym, ◌∙◌}
use Rattle.std.proofs.lemmas.Iterator.Search.{position_from_yields_List}
use Rattle.std.proofs.lemmas.Iterator.{YieldsList-from_slice}
use Rattle.board.specs.Viewed.{given}
use Rattle.board.proofs.Planning.{lacks, sets_searched}
use Rattle.board.proofs.making.check_sets.Goals as goal

pub returns-in-Some : goal.returns-in-Some
returns-in-Some c =
    let lacking = lacks c.args.counts.tasks c.args.counts.lines in
    let found = position_from_yields_List lacking _ _ c.position.result c.position.ensures.ran (YieldsList-from_slice _ c.iter.ensures.rest) (λ x b q k. search rules) in
    sets_searched (given c.args.tables.now) c.args.counts.tasks c.args.counts.lines c.args.tables.now.wakes.now c.requires.tasks c.requires.lines refl
    c.if-not-within.ensures.is c.if-not-within-2.ensures.is (Some c.in-Some.event) (sym c.in-Some.is ∙ found)

pub returns-in-None : goal.returns-in-None
returns-in-None c =
    let lacking = lacks c.args.counts.tasks c.args.counts.lines in
    let found = position_from_yields_List lacking _ _ c.position.result c.position.ensures.ran (YieldsList-from_slice _ c.iter.ensures.rest) (λ x b q k. search rules) in
    sets_searched (given c.args.tables.now) c.args.counts.tasks c.args.counts.lines c.args.tables.now.wakes.now c.requires.tasks c.requires.lines refl
    c.if-not-within.ensures.is c.if-not-within-2.ensures.is None (sym c.in-None.is ∙ found)
