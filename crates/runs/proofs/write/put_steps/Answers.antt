use Rattle.std.proofs.Common.{◌≡◌, ◌+◌, ◌*◌, ℕ, List, [], ◌∷◌, get_or, ap, refl, arith}
use Rattle.std.proofs.lemmas.Slice.{put_mid-paste}
use Rattle.runs.proofs.Writing.{blank, four, put_more}
use Rattle.runs.proofs.write.put_steps.Goals as goal

pub loop-k-preserved : goal.loop-k-preserved
loop-k-preserved c =
    let steps = c.args.steps.now in
    let k = c.loop-k.k in
    let s = get_or steps k blank in
    let two = c.to_le_bytes.result in
    let part : List ℕ = s.code ∷ s.number ∷ get_or two 0 0 ∷ get_or two 1 0 ∷ [] in
    let is : part ≡ four s = ap (λ (t : List ℕ). s.code ∷ s.number ∷ get_or t 0 0 ∷ get_or t 1 0 ∷ []) c.to_le_bytes.ensures in
    put_more c.args.out.now c.loop-k.out steps k c.loop-k.invariant _ part c.requires c.loop-k-test.true is
    (put_mid-paste (5 + 4 * k) _ c.loop-k.out c.copy_from_slice.new.self part 4 c.copy_from_slice.ensures.after (omega arith) refl)
