use Rattle.std.proofs.Common.{[], ◌∷◌, ◌++◌, sym, ap, ◌∙◌}
use Rattle.text.specs.Texts.{cut}
use Rattle.text.proofs.Cutting.{no_more, one_more}
use Rattle.text.proofs.Filling.{padded_one_more}
use Rattle.text.proofs.text.Text.push.Goals as goal

pub invariant_of-self : goal.invariant_of-self
invariant_of-self c =
    let t = c.self.inside in
    padded_one_more t.len c.args.byte t.bytes c.self.invariant c.if-self-lt512.true

pub returns-then-self-lt512 : goal.returns-then-self-lt512
returns-then-self-lt512 c =
    let t = c.self.inside in
    one_more 512 t.len c.args.byte t.bytes c.self.invariant.sized c.if-self-lt512.true
    ∙ ap (λ bs. cut (bs ++ c.args.byte ∷ [])) c.self.view_is

pub returns-else-self-lt512 : goal.returns-else-self-lt512
returns-else-self-lt512 c =
    let t = c.self.inside in
    sym c.self.view_is
    ∙ (no_more 512 t.len t.bytes _ c.self.invariant.sized c.if-self-lt512.false
    ∙ ap (λ bs. cut (bs ++ c.args.byte ∷ [])) c.self.view_is)
