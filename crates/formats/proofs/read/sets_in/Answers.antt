use Rattle.std.proofs.Common.{◌≡◌, ℕ, ◌*◌, ◌<◌, rules, arith}
use Rattle.numbers.specs.declared.number.TaskNo.{TaskNo}
use Rattle.numbers.specs.declared.set.Set.{Set}
use Rattle.formats.specs.Wire.{word}
use Rattle.formats.proofs.Words.{made_each, sets_read}
use Rattle.formats.proofs.read.sets_in.Goals as goal

pub returns : goal.returns
returns c =
    let bs = c.args.bytes.now in
    let n = c.args.count in
    let items = c.from_fn.ensures.items in
    let z : Set TaskNo = record { bits = 0; kind = record {} } in
    sets_read bs c.from_fn.result z n c.requires.whole (omega arith)
    (λ k low.
    made_each _ _ c.from_fn.result (λ (i : ℕ) (s : Set TaskNo). i < n → s.bits ≡ word bs (2 * i)) (λ i y q called. search rules) 16 0 items.each k (omega arith) (omega arith) z low)
