use Rattle.std.proofs.Common.{◌≡◌, reverse, arith, ap, ◌∙◌}
use Rattle.std.proofs.lemmas.Iterator.Adapters.{YieldsList-from_rev_slice}
use Rattle.std.proofs.lemmas.Iterator.Consumers.{nth_from_yields_List}
use Rattle.std.specs.Iterator.Adapters.{rev_source}
use Rattle.std.specs.Slice.Iter.{iter_rest}
use Rattle.std.specs.List.{slice_get}
use Rattle.system.proofs.Stacks.{nth_get}
use Rattle.system.proofs.stack.Stack.get.Goals as goal

pub returns : goal.returns
returns c =
    let s = c.args.self.now in
    let rest : iter_rest (rev_source c.rev.result) ≡ c.held.result.now = cc in
    let found = nth_from_yields_List c.nth.result c.nth.new.self c.args.position c.nth.ensures.ran (YieldsList-from_rev_slice c.held.result.now rest) in
    c.copied.ensures ∙ found ∙ ap (λ rs. slice_get (reverse rs) c.args.position) c.held.ensures ∙ nth_get s.slots s.len c.args.position (omega arith)
