use Rattle.std.proofs.Common.{[], ◌∷◌, ◌++◌, decimal, ap, ◌∙◌, arith, rules}
use Rattle.report.proofs.Texts.{decimal_31, eight_parts}
use Rattle.transcript.proofs.drive.drive_row.Goals as goal

pub returns : goal.returns
returns c =
    let k = c.args.ordinal in
    let code = c.number-2.result in
    let a = c.args.answer in
    let n = c.args.active in
    eight_parts (decimal k) (32 ∷ []) (decimal code) (32 ∷ []) (decimal a) (32 ∷ []) (decimal n) (10 ∷ [])
    c.new-text.ensures c.number.ensures c.word.ensures c.number-3.ensures c.word-2.ensures c.number-4.ensures c.word-3.ensures c.number-5.ensures c.word-4.ensures
    (decimal_31 k (search rules)) (omega arith) (decimal_31 code (search rules)) (omega arith) (decimal_31 a (search rules)) (omega arith) (decimal_31 n (search rules)) (omega arith)
    ∙ ap (λ m. decimal k ++ (32 ∷ []) ++ decimal m ++ (32 ∷ []) ++ decimal a ++ (32 ∷ []) ++ decimal n ++ (10 ∷ [])) c.number-2.ensures
