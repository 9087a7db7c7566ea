use Rattle.std.proofs.Common.{[], ◌∷◌, ◌++◌, decimal}
use Rattle.text.proofs.Cutting.{cut_on}
use Rattle.report.proofs.quote.add_line.Goals as goal

pub returns : goal.returns
returns c =
    let before = c.args.text.now in
    let name = c.args.name.now in
    let digits = decimal c.args.value in
    let two = cut_on 512 before name (32 ∷ []) c.word.ensures c.word-2.ensures in
    let three = cut_on 512 before (name ++ (32 ∷ [])) digits two c.number.ensures in
    cut_on 512 before (name ++ (32 ∷ []) ++ digits) (10 ∷ []) three c.word-3.ensures
