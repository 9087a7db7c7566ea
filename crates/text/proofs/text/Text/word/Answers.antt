use Rattle.std.proofs.Common.{◌≡◌, ◌+◌, ◌-◌, ◌++◌, length, take, min, ap, ◌∙◌, arith}
use Rattle.std.proofs.lemmas.Slice.{take-put_mid}
use Rattle.text.specs.Texts.{cut}
use Rattle.text.proofs.Cutting.{room_for}
use Rattle.text.proofs.Filling.{part, padded_more}
use Rattle.text.proofs.text.Text.word.Goals as goal

pub invariant_of-self : goal.invariant_of-self
invariant_of-self c =
    let t = c.self.inside in
    padded_more t.len c.min-added.result t.bytes c.copy_from_slice.new.self c.self.invariant (omega arith)
    c.copy_from_slice.ensures.len

pub returns : goal.returns
returns c =
    let t = c.self.inside in
    let n = c.min-added.result in
    let ws = c.args.word.now in
    let copied = c.copy_from_slice.new.self in
    let added : copied ≡ take (min (length ws) (512 - t.len)) ws =
    c.copy_from_slice.ensures.after
    ∙ (ap (λ k. take k c.as_bytes-bytes.result.now) c.min-added.ensures
    ∙ ap (λ bs. take (min (length bs) (512 - t.len)) bs) c.as_bytes-bytes.ensures.value) in
    let many : length copied ≡ n = c.copy_from_slice.ensures.len ∙ part t.len n t.bytes c.self.invariant.sized (omega arith) in
    take-put_mid t.len (t.len + n - t.len) t.bytes copied (t.len + n) (omega arith) (omega arith)
    ∙ (ap (λ zs. take t.len t.bytes ++ zs) added
    ∙ (room_for 512 t.len t.bytes ws c.self.invariant.sized c.self.invariant.fits
    ∙ ap (λ bs. cut (bs ++ ws)) c.self.view_is))
