use Rattle.std.proofs.Common.{[], ◌∷◌, ◌++◌, codes, decimal, ap, ◌∙◌, arith, rules}
use Rattle.text.specs.Texts.{cut}
use Rattle.formats.specs.Faults.{layer_number}
use Rattle.report.specs.Faults.{line_of}
use Rattle.report.proofs.Texts.{decimal_31, seven_parts}
use Rattle.report.proofs.fault.ProgramFault.line.Goals as goal

pub returns : goal.returns
returns c =
    let r = c.refusal-refusal.result in
    seven_parts (codes "refused ") (decimal r.number) (codes " ") (decimal r.place) (codes " ") (decimal (layer_number r.layer)) (10 ∷ [])
    c.new-text.ensures c.word.ensures c.number.ensures c.word-2.ensures c.number-2.ensures c.word-3.ensures (c.number-4.ensures ∙ ap (λ n. cut (c.word-3.new.self ++ decimal n)) c.number-3.ensures) c.word-4.ensures
    (omega arith) (decimal_31 r.number (search rules)) (omega arith) (decimal_31 r.place (search rules)) (omega arith) (decimal_31 (layer_number r.layer) (search rules)) (omega arith)
    ∙ ap line_of c.refusal-refusal.ensures
