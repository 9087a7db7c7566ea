use Rattle.std.proofs.Common.{rules, arith, refl, ◌∙◌}
use Rattle.std.proofs.lemmas.Iterator.{YieldsList-from_slice}
use Rattle.std.proofs.lemmas.Iterator.Search.{any_from_yields_List}
use Rattle.kernel.specs.Rules.{handles}
use Rattle.system.proofs.Stacks.{holds_among}
use Rattle.system.proofs.stack.Stack.holds.Goals as goal

pub returns : goal.returns
returns c =
    let s = c.args.self.now in
    let test = handles c.args.line in
    any_from_yields_List test _ _ c.any.result c.any.ensures.ran (YieldsList-from_slice c.held.result.now cc) (λ x b q k. search rules)
    ∙ holds_among c.args.line test (λ r. refl) s.slots s.len (omega arith) c.held.result.now c.held.ensures
