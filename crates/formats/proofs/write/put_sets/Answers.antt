use Rattle.std.proofs.Common.{◌∙◌, arith}
use Rattle.formats.proofs.Placing.{put_sets_more}
use Rattle.formats.proofs.write.put_sets.Goals as goal

pub loop-i-preserved : goal.loop-i-preserved
loop-i-preserved c =
    put_sets_more c.args.out.now c.args.sets.now c.loop-i.i c.loop-i.out c.copy_from_slice.new.self c.bits.result _
    c.loop-i.invariant c.loop-i-test.true c.bits.ensures (c.copy_from_slice.ensures.after ∙ c.to_le_bytes.ensures) (omega arith)
